-- What the line was read as decides which case of the definition was served.
use Prim.Native.Nat.{◌≤◌}
use native.Mathlib.Omega.{arith}
use lib.ListN.{length, length-take, length-drop}
use Rattle.line.specs.Line.{most_signs}
use Rattle.lines.proofs.ServeLaws.{read-as, serve-routed, serve-announced, serve-withdrawn, serve-listed, serve-unknown, announce-places, withdraw-places}
use borrow.Author.Rules.{rules}
use Rattle.lines.proofs.serve.Goals.{In-Some-Announce, In-Some-Withdraw}
use Rattle.lines.proofs.serve.Goals as goal

-- where a line was read: its parts lie in it
announced : (c : In-Some-Announce)
    → (c.in-Some-Announce.rule ≤ c.in-Some-Announce.rule_end)
    × ((c.in-Some-Announce.rule_end ≤ length c.args.line.now)
    × ((c.in-Some-Announce.communities ≤ length c.args.line.now) × (length c.args.line.now ≤ most_signs)))
announced c = announce-places _ _ c.read_line.ensures _ _ _ _ (read-as c.in-Some-Announce.is c.in-Some-Announce.field-0-is)

withdrawn : (c : In-Some-Withdraw) → (c.in-Some-Withdraw.rule ≤ length c.args.line.now) × (length c.args.line.now ≤ most_signs)
withdrawn c = withdraw-places _ _ c.read_line.ensures _ (read-as c.in-Some-Withdraw.is c.in-Some-Withdraw.field-0-is)

pub returns-in-Some-Route : goal.returns-in-Some-Route
returns-in-Some-Route c = search (serve-routed, read-as, rules)

pub serve_announce-printed-requires : goal.serve_announce-printed-requires
serve_announce-printed-requires c = let w = announced (goal.at.serve_announce-printed-requires c).In-Some-Announce in (simp (length-take, length-drop) (omega arith), simp (length-take, length-drop) (omega arith))

pub serve_withdraw-printed-requires : goal.serve_withdraw-printed-requires
serve_withdraw-printed-requires c = let w = withdrawn (goal.at.serve_withdraw-printed-requires c).In-Some-Withdraw in simp (length-take, length-drop) (omega arith)

pub returns-in-Some-Announce : goal.returns-in-Some-Announce
returns-in-Some-Announce c = search (serve-announced, read-as, rules)

pub returns-in-Some-Withdraw : goal.returns-in-Some-Withdraw
returns-in-Some-Withdraw c = search (serve-withdrawn, read-as, rules)

pub returns-in-Some-Listing : goal.returns-in-Some-Listing
returns-in-Some-Listing c = search (serve-listed, read-as, rules)

pub returns-in-None : goal.returns-in-None
returns-in-None c = search (serve-unknown, rules)
