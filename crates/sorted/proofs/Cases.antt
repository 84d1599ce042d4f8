-- Going by the outcome of a comparison and keeping what it says. Assumes nothing.
use mathlib.Core.Path.{◌≡◌, refl, ap, ◌∙◌}
use Prim.Native.Nat.{Ordering}
use Rattle.octets.proofs.OrderLaws.{IsOrder, swap}

-- a claim holds where it holds at each outcome of a comparison
pub by-order : {P : Type 0} (o : Ordering) → (o ≡ Ordering.lt → P) → (o ≡ Ordering.eq → P) → (o ≡ Ordering.gt → P) → P
by-order Ordering.lt f g h = f refl
by-order Ordering.eq f g h = g refl
by-order Ordering.gt f g h = h refl

-- the other way round
pub turned : {K : Type 0} (cmp : K → K → Ordering) → IsOrder cmp → (a b : K) → cmp a b ≡ Ordering.gt → cmp b a ≡ Ordering.lt
turned cmp O a b e = O.flip a b ∙ ap swap e
