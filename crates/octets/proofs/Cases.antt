-- Going by the outcome of a test and keeping what it says, tests put together of tests, and when two tests are the same. Assumes nothing.
use mathlib.Core.Path.{◌≡◌, refl, sym}
use mathlib.Core.Bool.{Bool, true, false, ◌&&◌, ◌||◌}
use Prim.Native.Nat.{ℕ}
use native.Mathlib.Omega.{arith}

-- a claim holds where it holds at each outcome of a test
pub by-test : {P : Type 0} (b : Bool) → (b ≡ true → P) → (b ≡ false → P) → P
by-test true f g = f refl
by-test false f g = g refl

-- anything follows where two different numbers would be equal
pub apart : {P : Type 0} → ◌≡◌ {A = ℕ} 0 1 → P
apart e = absurd (omega arith)

-- both tests of a conjunction hold where it does
pub both : (a b : Bool) → a && b ≡ true → (a ≡ true) × (b ≡ true)
both true b e = (refl, e)
both false b e = apart (cc)

-- neither test of a disjunction holds where it does not
pub neither : (a b : Bool) → a || b ≡ false → (a ≡ false) × (b ≡ false)
neither true b e = apart (cc)
neither false b e = (refl, e)

-- two tests that hold at the same places are the same test
pub same_test : (a b : Bool) → (a ≡ true → b ≡ true) → (b ≡ true → a ≡ true) → a ≡ b
same_test true b f g = sym (f refl)
same_test false true f g = g refl
same_test false false f g = refl
