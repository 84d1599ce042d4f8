-- **The fragment header that a walk comes over.** A walk that comes over the first header 44, with an offset in it that is not 0, ends right
-- behind it: at an upper layer, unless that header's next one is 0, 43 or 60. And a walk that ends behind such an offset came over such a
-- header. Assumes nothing.
use mathlib.Core.Path.{◌≡◌, refl, ap, sym, subst, ◌∙◌}
use mathlib.Core.Bool.{true, false, not, ◌||◌}
use mathlib.Core.List.Memᴰ
use mathlib.Core.List.{List, Memᴰ}
use mathlib.Core.Logic.{◌⊎◌, inl, inr, ⊎_elim}
use Prim.Native.Nat.{ℕ, ◌+◌, ◌≤◌}
use native.Mathlib.Omega.{arith}
use lib.Dec.{ltb, eqb}
use lib.ListN.{length, get_or}
use borrow.Author.Tests.{eqb-true}
use Rattle.std.proofs.Common.{Option, Some, None, Result, Ok, Err}
use Rattle.octets.specs.Number.{number_at}
use Rattle.octets.specs.Walk.{Walk, before}
use Rattle.octets.proofs.Cases.{by-test, apart, both}
use Rattle.extension.specs.declared.Progress.{Progress}
use Rattle.extension.specs.Extension.{is_walked, is_first_fragment, offset_of_fragment, extension_size, extension_at, fragment_at, header_at, ended, reached, headers_from, at_first, upper_layer, walked_over, before_fragment, past_fragment}
use Rattle.extension.proofs.ExtensionLaws.{another-within, headers-on, headers-upper, headers-lost, headers-ind, unfragmented-zero}
use Rattle.extension.proofs.LaidOut.{upper-here, second-fragment, later-lost}

module _ (s : List ℕ) where
  -- a header that is walked over leads on to where the walk ends
  record Leads (p : Progress) (end : Result Progress Progress) : Type 0 where
    pub next : Progress
    pub over : header_at s p ≡ Ok (Some next)
    pub ends : (headers_from s next).ending ≡ end

  -- every header that a walk comes over does so
  abbrev Way : Progress → Walk Progress (Result Progress Progress) → Type 0
  Way p w = (headers_from s p ≡ w) × ((q : Progress) → Memᴰ q w.items → Leads q w.ending)

  on-the-way : (p : Progress) → Way p (headers_from s p)
  on-the-way =
      headers-ind s Way
      (λ p e. (headers-upper s p e, λ q m. absurd (Memᴰ.not-nil m)))
      (λ p e. (headers-lost s p p e, λ q m. absurd (Memᴰ.not-nil m)))
      (λ p q w e rest. (
        headers-on s p q e ∙ ap (before p) rest.0,
        λ r m. ⊎_elim (λ same. record { next = q; over = ap (header_at s) same ∙ e; ends = ap (λ v. v.ending) rest.0 }) (λ n. rest.1 r n) (Memᴰ.cases_cons m),
      ))

  -- behind the first fragment header
  past-it : (place : ℕ) (q : Progress) → header_at s (before_fragment place) ≡ Ok (Some q) → q ≡ past_fragment s place
  unfolding header_at fragment_at
  past-it place q e =
      by-test (ltb (length s) (place + 8)) (λ t. let z : Err (before_fragment place) ≡ Ok (Some q) = rw t at e in apart (cc)) (λ t. let z : Ok (Some (past_fragment s place)) ≡ Ok (Some q) = rw t at e in cc)

  -- behind an offset that is not 0 the walk ends at once
  ends_there : (p : Progress) → p.fragmented ≡ true → (offset_of_fragment p.field ≡ 0 → ⊥) → (headers_from s p).ending ≡ ended (not (is_walked p.kind)) p
  ends_there p seen later =
      by-test (is_walked p.kind) (λ t. later-lost s p t later ∙ ap (λ b. ended (not b) p) (sym t))
      (λ t. upper-here s p t (second-fragment p seen) ∙ ap (λ b. ended (not b) p) (sym t))

  -- **a walk that comes over a fragment header whose offset is not 0 ends right behind it**
  module _ (place : ℕ) (walked : Memᴰ (before_fragment place) (walked_over s)) where
    leads : Leads (before_fragment place) (headers_from s (at_first s)).ending
    leads = (on-the-way (at_first s)).1 (before_fragment place) walked

    pub fragment-within : place + 8 ≤ length s
    fragment-within = let w = another-within s (before_fragment place) leads.next leads.over in omega arith

    pub fragment-ends : (offset_of_fragment (number_at 2 s (place + 2)) ≡ 0 → ⊥) → upper_layer s ≡ ended (not (is_walked (get_or s place 0))) (past_fragment s place)
    unfolding upper_layer
    fragment-ends later =
        sym leads.ends ∙ ap (λ (q : Progress). (headers_from s q).ending) (past-it place leads.next leads.over)
        ∙ ends_there (past_fragment s place) refl later

  -- ---- that there is such a header ----

  -- a header 0, 43 or 60 leaves what a walk knows of fragments, and the first fragment header sets it
  abbrev Passed : Progress → Result (Option Progress) Progress → Type 0
  Passed p (Ok (Some q)) =
      ((q.fragmented ≡ p.fragmented) × (q.field ≡ p.field))
      ⊎ ((is_first_fragment p ≡ true) × ((q.fragmented ≡ true) × (q.field ≡ number_at 2 s (p.at + 2))))
  Passed p (Ok None) = Unit {0}
  Passed p (Err lost) = Unit {0}

  passed : (p : Progress) → Passed p (header_at s p)
  unfolding header_at extension_at fragment_at
  passed p =
      by-test (is_walked p.kind)
      (λ t. by-test (not (eqb (offset_of_fragment p.field) 0) || ltb (length s) (p.at + extension_size s p.at)) (λ u. rw (t, u) tt) (λ u. rw (t, u) (inl (refl, refl))))
      (λ t. by-test (is_first_fragment p)
      (λ f. by-test (ltb (length s) (p.at + 8)) (λ u. rw (t, f, u) tt) (λ u. rw (t, f, u) (inr (f, (refl, refl)))))
      (λ f. rw (t, f) tt))

  -- a walk came over the first fragment header, and ends with its field
  record Came (w : Walk Progress (Result Progress Progress)) : Type 0 where
    pub place : ℕ
    pub walked : Memᴰ (before_fragment place) w.items
    pub field : (reached w.ending).field ≡ number_at 2 s (place + 2)

  -- behind a fragment header its field stands; and a walk that was behind none and ends behind one came over it
  abbrev Over : Progress → Walk Progress (Result Progress Progress) → Type 0
  Over p w =
      (p.fragmented ≡ true → (reached w.ending).field ≡ p.field)
      × (p.fragmented ≡ false → p.field ≡ 0 → (reached w.ending).fragmented ≡ true → Came w)

  here : (p : Progress) → is_first_fragment p ≡ true → p.fragmented ≡ false → p.field ≡ 0 → before_fragment p.at ≡ p
  here p first unseen nought =
      let kind : 44 ≡ p.kind = sym (eqb-true p.kind 44 (both (eqb p.kind 44) (not p.fragmented) first).0) in
      rw (kind, ← unseen, ← nought)

  came-over : (p : Progress) → Over p (headers_from s p)
  came-over = headers-ind s Over (λ p e. (λ h. refl, λ h z seen. apart (cc))) (λ p e. (λ h. refl, λ h z seen. apart (cc))) on
    where
      on : (p q : Progress) (w : Walk Progress (Result Progress Progress)) → header_at s p ≡ Ok (Some q) → Over q w → Over p (before p w)
      on p q w e rest =
          let step = subst (Passed p) e (passed p) in (
            λ h. ⊎_elim (λ k. rest.0 (k.0 ∙ h) ∙ k.1) (λ f. let z = second-fragment p h in apart (cc)) step,
            λ h z seen.
                ⊎_elim
                (λ k. let later = rest.1 (k.0 ∙ h) (k.1 ∙ z) seen in record { place = later.place; walked = Memᴰ.tail later.walked; field = later.field })
                (λ f. record { place = p.at; walked = Memᴰ.head (here p f.0 h z); field = rest.0 f.1.0 ∙ f.1.1 })
                step,
          )

-- **where a walk ends behind a fragment offset that is not 0 it came over a fragment header with such an offset**
pub record CameOverLater (s : List ℕ) : Type 0 where
  pub place : ℕ
  pub walked : Memᴰ (before_fragment place) (walked_over s)
  pub later : offset_of_fragment (number_at 2 s (place + 2)) ≡ 0 → ⊥

pub came-over-later : (s : List ℕ) → (offset_of_fragment (reached (upper_layer s)).field ≡ 0 → ⊥) → CameOverLater s
unfolding upper_layer
came-over-later s later =
    let seen : (reached (upper_layer s)).fragmented ≡ true =
    by-test (reached (upper_layer s)).fragmented (λ t. t) (λ t. absurd (later (ap offset_of_fragment (unfragmented-zero s t)))) in
    let came = (came-over s (at_first s)).1 refl refl seen in
    record { place = came.place; walked = came.walked; later = λ z. later (ap offset_of_fragment came.field ∙ z) }
