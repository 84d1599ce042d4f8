-- Where there is room the route is four words set in a row, and elsewhere the answer is printed.
use Prim.Native.Nat.{◌+◌, ◌≤◌}
use native.Mathlib.Omega.{arith}
use lib.ListN.{length, length-set}
use Rattle.lines.specs.Serve.{most_words}
use Rattle.lines.proofs.ServeLaws.{route-room, route-added, route-not-added}
use borrow.Author.Rules.{rules}
use mathlib.Core.Path.{ap}
use mathlib.Core.Bool.{not}
use Rattle.lines.proofs.serve_route.Goals.{Else-not-route_fits}
use Rattle.lines.proofs.serve_route.Goals as goal

-- where the route fits
room : (c : Else-not-route_fits) → (c.args.used + 4 ≤ most_words) × (c.args.used + 4 ≤ length c.args.routes.now)
room c = route-room c.args.routes.now _ _ c.route_fits.ensures (ap not c.if-not-route_fits.false)

pub returns-then-not-route_fits : goal.returns-then-not-route_fits
returns-then-not-route_fits c = search (route-not-added, rules)

pub overflow_add-second : goal.overflow_add-second
overflow_add-second c = omega (arith, room c)

pub overflow_add-third : goal.overflow_add-third
overflow_add-third c = omega (arith, room c)

pub overflow_add-fourth : goal.overflow_add-fourth
overflow_add-fourth c = omega (arith, room c)

pub offset_bounds-routes-used : goal.offset_bounds-routes-used
offset_bounds-routes-used c = omega (arith, room c)

pub bounds-routes-used : goal.bounds-routes-used
bounds-routes-used c = omega (arith, room c)

pub offset_bounds-routes-second : goal.offset_bounds-routes-second
offset_bounds-routes-second c = omega (arith, room c)

pub bounds-routes-second : goal.bounds-routes-second
bounds-routes-second c = simp length-set (omega (arith, room c))

pub offset_bounds-routes-third : goal.offset_bounds-routes-third
offset_bounds-routes-third c = omega (arith, room c)

pub bounds-routes-third : goal.bounds-routes-third
bounds-routes-third c = simp length-set (omega (arith, room c))

pub offset_bounds-routes-fourth : goal.offset_bounds-routes-fourth
offset_bounds-routes-fourth c = omega (arith, room c)

pub bounds-routes-fourth : goal.bounds-routes-fourth
bounds-routes-fourth c = simp length-set (omega (arith, room c))

pub overflow_add-result : goal.overflow_add-result
overflow_add-result c = omega (arith, room c)

pub returns : goal.returns
returns c = search (route-added, rules)
