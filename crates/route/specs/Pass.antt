-- How the code goes over the routes: once with each beside the one before it, and once with the best match kept and, of the routes strictly
-- inside the destination, whether they have no neighbour AS, one, or several. No promise to a caller names these words.
use Rattle.std.specs.Prelude.{ℕ, Bool, true, false, cond, ◌&&◌, eqb, Option, Some, None}
use Rattle.prefix.specs.Prefix.{Pattern}
use Rattle.route.specs.declared.Origin.{Origin}
use Rattle.route.specs.declared.Neighbours.{Neighbours}
use Rattle.route.specs.declared.Neighbours.TheVariants.{Nobody, One, Several}
use Rattle.route.specs.Route.{Route, plain_prefix, rises}
use Rattle.route.specs.Feasible.{more_specific, originates}

-- A prefix may follow another in a sound list: it is plain, and the other comes before it.
unfoldable pub may_follow : ℕ → Pattern → Pattern → Bool
may_follow w previous p = plain_prefix w p && rises previous p

-- The neighbour ASes with one more.
unfoldable pub added : Neighbours → ℕ → Neighbours
added Nobody n = One n
added (One m) n = cond (eqb m n) (One m) Several
added Several n = Several

-- A route's neighbour AS is noted where the route is more specific than the destination.
unfoldable pub noted : ℕ → Pattern → Neighbours → Route → Neighbours
noted w destination seen r = cond (more_specific w destination r) (added seen r.neighbour) seen

-- All neighbour ASes noted are this one.
unfoldable pub agrees : Neighbours → ℕ → Bool
agrees Nobody n = true
agrees (One m) n = eqb m n
agrees Several n = false

-- There is a best match, it has the announcement's originator, and all neighbour ASes noted are its own.
unfoldable pub validated : Option Route → Origin → Neighbours → Bool
validated None origin seen = false
validated (Some best) origin seen = originates origin best && agrees seen best.neighbour
