-- The laws of the walk: how it goes on, how it ends, that enough steps are enough, and induction along it. `μ` is a number that
-- falls with every step on, and is less than the number of steps allowed. Assumes nothing.
use mathlib.Core.Path.{◌≡◌, refl, ap, sym, ◌∙◌}
use mathlib.Core.List.{[], ◌∷◌}
use Prim.Native.Nat.{ℕ, zero, suc, ◌<◌}
use native.Mathlib.Omega.{arith}
use Rattle.octets.specs.Walk.{Step, more, last, stop, Walk, before, walk}

module _ {S A E : Type 0} (out : E) (step : S → Step S A E) where
  -- the number of steps allowed is no matter for a walk that ends at once
  pub walk-stop : (n : ℕ) (s : S) (e : E) → 0 < n → step s ≡ stop e → walk n out step s ≡ record { items = []; ending = e }
  unfolding walk
  walk-stop zero s e h q = absurd (omega arith)
  walk-stop (suc n) s e h q = rw (q, walk)

  pub walk-last : (n : ℕ) (s : S) (a : A) (e : E) → 0 < n → step s ≡ last a e → walk n out step s ≡ record { items = a ∷ []; ending = e }
  unfolding walk
  walk-last zero s a e h q = absurd (omega arith)
  walk-last (suc n) s a e h q = rw (q, walk)

  walk-suc : (n : ℕ) (s t : S) (a : A) → step s ≡ more a t → walk (suc n) out step s ≡ before a (walk n out step t)
  unfolding walk
  walk-suc n s t a q = rw (q, walk)

  module _ (μ : S → ℕ) (falls : (s t : S) (a : A) → step s ≡ more a t → μ t < μ s) where
    -- any two numbers of steps above the measure give the same walk
    pub walk_same : (n m : ℕ) (s : S) → μ s < n → μ s < m → walk n out step s ≡ walk m out step s
    walk_same zero m s h k = absurd (omega arith)
    walk_same (suc n) zero s h k = absurd (omega arith)
    walk_same (suc n) (suc m) s h k = go (step s) refl (walk_same n m)
      where
        go : (x : Step S A E) → step s ≡ x → ((t : S) → μ t < n → μ t < m → walk n out step t ≡ walk m out step t)
            → walk (suc n) out step s ≡ walk (suc m) out step s
        go (more a t) q same =
            let l : μ t < μ s = falls s t a q in
            walk-suc n s t a q ∙ ap (before a) (same t (omega arith) (omega arith)) ∙ sym (walk-suc m s t a q)
        go (last a e) q same = walk-last (suc n) s a e (omega arith) q ∙ sym (walk-last (suc m) s a e (omega arith) q)
        go (stop e) q same = walk-stop (suc n) s e (omega arith) q ∙ sym (walk-stop (suc m) s e (omega arith) q)

    -- the walk goes on, with the same number of steps
    pub walk_more : (n : ℕ) (s t : S) (a : A) → μ s < n → step s ≡ more a t → walk n out step s ≡ before a (walk n out step t)
    walk_more zero s t a h q = absurd (omega arith)
    walk_more (suc n) s t a h q =
        let l : μ t < μ s = falls s t a q in
        walk-suc n s t a q ∙ ap (before a) (walk_same n (suc n) t (omega arith) (omega arith))

    -- what holds at each ending, and holds before each step on where it holds after it, holds of the walk from every state
    pub walk-ind : (P : S → Walk A E → Type 0) → ((s : S) (e : E) → step s ≡ stop e → P s (record { items = []; ending = e }))
        → ((s : S) (a : A) (e : E) → step s ≡ last a e → P s (record { items = a ∷ []; ending = e }))
        → ((s t : S) (a : A) (w : Walk A E) → step s ≡ more a t → P t w → P s (before a w)) → (n : ℕ) (s : S) → μ s < n → P s (walk n out step s)
    walk-ind P at-stop at_last at_more zero s h = absurd (omega arith)
    walk-ind P at-stop at_last at_more (suc n) s h = go (step s) refl (walk-ind P at-stop at_last at_more n)
      where
        go : (x : Step S A E) → step s ≡ x → ((t : S) → μ t < n → P t (walk n out step t)) → P s (walk (suc n) out step s)
        go (more a t) q rest =
            let l : μ t < μ s = falls s t a q in
            rw (walk-suc n s t a q) (at_more s t a (walk n out step t) q (rest t (omega arith)))
        go (last a e) q rest = rw (walk-last (suc n) s a e (omega arith) q) (at_last s a e q)
        go (stop e) q rest = rw (walk-stop (suc n) s e (omega arith) q) (at-stop s e q)
