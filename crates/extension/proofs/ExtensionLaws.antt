-- The walk over extension headers: how the code comes to each of its answers; **that each header takes octets, so that the walk ends**; and how
-- the walk goes on and ends. Assumes nothing.
use mathlib.Core.Path.{◌≡◌, refl, ap, sym, subst, ◌∙◌}
use mathlib.Core.Bool.{Bool, true, false, not, cond, ◌||◌}
use mathlib.Core.List.{List, [], ◌∷◌}
use Prim.Native.Nat.{ℕ, ◌+◌, ◌-◌, ◌*◌, ◌/◌, ◌<◌, ◌≤◌}
use native.Mathlib.Omega.{arith}
use lib.Dec.{ltb, eqb}
use lib.ListN.{length, get_or}
use borrow.Author.Tests.{lt-ltb, le-ltb, ne_eqb, ltb-false}
use Rattle.std.proofs.Common.{Option, Some, None, Result, Ok, Err, IsErrAnd}
use Rattle.std.specs.Result.{is_ok}
use Rattle.octets.specs.Number.{number_at}
use Rattle.octets.specs.Walk.{Step, more, last, stop, Walk, before, through}
use Rattle.octets.proofs.Cases.{by-test, apart}
use Rattle.octets.proofs.WalkLaws.{walk-stop, walk_more, walk-ind}
use Rattle.extension.specs.declared.Progress.{Progress}
use Rattle.extension.specs.Extension.{is_walked, is_first_fragment, offset_of_fragment, extension_size, extension_at, fragment_at, over, header_at, ended, reached, header_step, headers_from, at_first, upper_layer}

-- how `extension_at` comes to each of its answers
module _ (s : List ℕ) (p : Progress) where
  pub extension-later : (p.field / 8 ≡ 0 → ⊥) → Err p ≡ extension_at s p
  unfolding extension_at
  extension-later h = rw (ne_eqb (p.field / 8) 0 h)

  module _ (first : p.field / 8 ≡ 0) where
    extension-by : (past : Bool) → ltb (length s) (p.at + extension_size s p.at) ≡ past
        → extension_at s p ≡ cond past (Err p) (Ok (record { kind = get_or s p.at 0; at = p.at + extension_size s p.at; fragmented = p.fragmented; field = p.field }))
    unfolding extension_at
    extension-by past e = rw (first, e)

    pub extension-none : length s ≤ p.at → Err p ≡ extension_at s p
    extension-none h = sym (extension-by true (lt-ltb (length s) (p.at + extension_size s p.at) (omega arith)))

    pub extension-cut : (units : ℕ) → units ≡ get_or s (p.at + 1) 0 → p.at < length s → length s - p.at < (units + 1) * 8 → Err p ≡ extension_at s p
    extension-cut units is within h = sym (extension-by true (lt-ltb (length s) (p.at + extension_size s p.at) (omega arith)))

    pub extension-whole : (units : ℕ) → units ≡ get_or s (p.at + 1) 0 → p.at < length s → (units + 1) * 8 ≤ length s - p.at
        → Ok (record { kind = get_or s p.at 0; at = p.at + (units + 1) * 8; fragmented = p.fragmented; field = p.field }) ≡ extension_at s p
    extension-whole units is within h = rw is (sym (extension-by false (le-ltb (length s) (p.at + extension_size s p.at) (omega arith))))

  -- how `fragment_at` comes to each of its answers
  fragment-by : (past : Bool) → ltb (length s) (p.at + 8) ≡ past
      → fragment_at s p ≡ cond past (Err p) (Ok (record { kind = get_or s p.at 0; at = p.at + 8; fragmented = true; field = number_at 2 s (p.at + 2) }))
  unfolding fragment_at
  fragment-by past e = rw e

  pub fragment-none : length s ≤ p.at → Err p ≡ fragment_at s p
  fragment-none h = sym (fragment-by true (lt-ltb (length s) (p.at + 8) (omega arith)))

  pub fragment-cut : p.at < length s → length s - p.at < 8 → Err p ≡ fragment_at s p
  fragment-cut within h = sym (fragment-by true (lt-ltb (length s) (p.at + 8) (omega arith)))

  pub fragment-whole : (field : ℕ) → field ≡ number_at 2 s (p.at + 2) → p.at < length s → 8 ≤ length s - p.at
      → Ok (record { kind = get_or s p.at 0; at = p.at + 8; fragmented = true; field = field }) ≡ fragment_at s p
  fragment-whole field is within h = rw is (sym (fragment-by false (le-ltb (length s) (p.at + 8) (omega arith))))

  -- how `header_at` comes to each of its answers
  module _ (walked : Bool) (tells : walked ≡ is_walked p.kind) where
    pub header-walked : (next : Result Progress Progress) → walked ≡ true → next ≡ extension_at s p → over next ≡ header_at s p
    unfolding header_at
    header-walked next w e = rw (← tells, w, e)

    pub header-fragment : (next : Result Progress Progress) → walked ≡ false → is_first_fragment p ≡ true → next ≡ fragment_at s p → over next ≡ header_at s p
    unfolding header_at
    header-fragment next w f e = rw (← tells, w, f, e)

    pub header-upper : walked ≡ false → is_first_fragment p ≡ false → Ok None ≡ header_at s p
    unfolding header_at
    header-upper w f = rw (← tells, w, f)

-- ---- the walk ----

-- neither of two tests holds
second-false : (a b : Bool) → (a || b) ≡ false → b ≡ false
second-false true b e = apart (cc)
second-false false b e = e

module _ (s : List ℕ) where
  -- where a walk has come to is behind a header of at least 8 octets that lies in the octets whole; a walk that is lost has come no further
  abbrev pub Behind : Progress → Result (Option Progress) Progress → Type 0
  Behind p (Ok (Some q)) = (p.at + 8 ≤ q.at) × (q.at ≤ length s)
  Behind p (Ok None) = Unit {0}
  Behind p (Err lost) = lost ≡ p

  extension-behind : (p : Progress) → Behind p (over (extension_at s p))
  unfolding extension_at
  extension-behind p =
      by-test (not (eqb (offset_of_fragment p.field) 0) || ltb (length s) (p.at + extension_size s p.at))
      (λ t. rw t refl)
      (λ t.
      let within = ltb-false (length s) (p.at + extension_size s p.at) (second-false (not (eqb (offset_of_fragment p.field) 0)) (ltb (length s) (p.at + extension_size s p.at)) t) in
      rw t (omega arith, within))

  fragment-behind : (p : Progress) → Behind p (over (fragment_at s p))
  unfolding fragment_at
  fragment-behind p =
      by-test (ltb (length s) (p.at + 8)) (λ t. rw t refl) (λ t. let within = ltb-false (length s) (p.at + 8) t in rw t (omega arith, within))

  header-behind : (p : Progress) → Behind p (header_at s p)
  unfolding header_at
  header-behind p =
      by-test (is_walked p.kind) (λ t. rw t (extension-behind p))
      (λ t. by-test (is_first_fragment p) (λ f. rw (t, f) (fragment-behind p)) (λ f. rw (t, f) tt))

  -- **each header takes octets**: behind one a walk has come at least 8 octets further, and not past the octets
  pub another-within : (p q : Progress) → header_at s p ≡ Ok (Some q) → (p.at + 8 ≤ q.at) × (q.at ≤ length s)
  another-within p q e = subst (Behind p) e (header-behind p)

  -- a walk that is lost had come to where it is lost
  lost-here : (p lost : Progress) → header_at s p ≡ Err lost → lost ≡ p
  lost-here p lost e = subst (Behind p) e (header-behind p)

  -- so what is left to walk over falls with every step
  falls : (p q r : Progress) → header_step p (header_at s p) ≡ more r q → length s - q.at < length s - p.at
  falls p q r = go (header_at s p) refl
    where
      go : (x : Result (Option Progress) Progress) → header_at s p ≡ x → header_step p x ≡ more r q → length s - q.at < length s - p.at
      go (Ok (Some b)) e h = let w = another-within p b e in let same : b ≡ q = cc in rw (← same) (omega arith)
      go (Ok None) e h = apart (cc)
      go (Err lost) e h = apart (cc)

  -- the walk from a place on: over a header, or at its end
  pub headers-on : (p q : Progress) → header_at s p ≡ Ok (Some q) → headers_from s p ≡ before p (headers_from s q)
  unfolding headers_from
  headers-on p q e =
      walk_more (Err (at_first s)) (λ r. header_step r (header_at s r)) (λ r. length s - r.at) falls (length s + 1) p q p (omega arith) (ap (header_step p) e)

  pub headers-upper : (p : Progress) → header_at s p ≡ Ok None → headers_from s p ≡ record { items = []; ending = Ok p }
  unfolding headers_from
  headers-upper p e = walk-stop (Err (at_first s)) (λ r. header_step r (header_at s r)) (length s + 1) p (Ok p) (omega arith) (ap (header_step p) e)

  pub headers-lost : (p lost : Progress) → header_at s p ≡ Err lost → headers_from s p ≡ record { items = []; ending = Err lost }
  unfolding headers_from
  headers-lost p lost e = walk-stop (Err (at_first s)) (λ r. header_step r (header_at s r)) (length s + 1) p (Err lost) (omega arith) (ap (header_step p) e)

  -- what holds where the walk ends, and before a header where it holds behind it, holds of the walk from every place
  pub headers-ind : (P : Progress → Walk Progress (Result Progress Progress) → Type 0)
      → ((p : Progress) → header_at s p ≡ Ok None → P p (record { items = []; ending = Ok p }))
      → ((p : Progress) → header_at s p ≡ Err p → P p (record { items = []; ending = Err p }))
      → ((p q : Progress) (w : Walk Progress (Result Progress Progress)) → header_at s p ≡ Ok (Some q) → P q w → P p (before p w))
      → (p : Progress) → P p (headers_from s p)
  unfolding headers_from
  headers-ind P upper lost on p =
      walk-ind (Err (at_first s)) (λ r. header_step r (header_at s r)) (λ r. length s - r.at) falls P
      (λ q e h. stops q e (header_at s q) refl h)
      (λ q a e h. lasts q a e (header_at s q) h)
      (λ q r a w h rest. mores q r a w (header_at s q) refl h rest)
      (length s + 1) p (omega arith)
    where
      stops : (q : Progress) (e : Result Progress Progress) (x : Result (Option Progress) Progress) → header_at s q ≡ x → header_step q x ≡ stop e → P q (record { items = []; ending = e })
      stops q e (Ok (Some b)) f h = apart (cc)
      stops q e (Ok None) f h = let same : Ok q ≡ e = cc in rw (← same) (upper q f)
      stops q e (Err b) f h =
          let here = lost-here q b f in
          let same : Err q ≡ e = cc in
          rw (← same) (lost q (rw here at f))

      lasts : (q a : Progress) (e : Result Progress Progress) (x : Result (Option Progress) Progress) → header_step q x ≡ last a e → P q (record { items = a ∷ []; ending = e })
      lasts q a e (Ok (Some b)) h = apart (cc)
      lasts q a e (Ok None) h = apart (cc)
      lasts q a e (Err b) h = apart (cc)

      mores : (q r a : Progress) (w : Walk Progress (Result Progress Progress)) (x : Result (Option Progress) Progress) → header_at s q ≡ x → header_step q x ≡ more a r → P r w → P q (before a w)
      mores q r a w (Ok (Some b)) f h rest =
          let same : b ≡ r = cc in
          let own : q ≡ a = cc in
          rw (← own) (on q b w f (rw same rest))
      mores q r a w (Ok None) f h rest = apart (cc)
      mores q r a w (Err b) f h rest = apart (cc)

  -- the ending for too few steps is no matter: any other gives the same walk
  pub walk_any : (out : Result Progress Progress) (p : Progress) → through s out (λ q. header_step q (header_at s q)) p ≡ headers_from s p
  walk_any out =
      headers-ind (λ p w. through s out step p ≡ w)
      (λ p e. walk-stop out step (length s + 1) p (Ok p) (omega arith) (ap (header_step p) e))
      (λ p e. walk-stop out step (length s + 1) p (Err p) (omega arith) (ap (header_step p) e))
      (λ p q w e h. walk_more out step (λ r. length s - r.at) falls (length s + 1) p q p (omega arith) (ap (header_step p) e) ∙ ap (before p) h)
    where
      step : Progress → Step Progress Progress (Result Progress Progress)
      step q = header_step q (header_at s q)

  -- a walk that begins in the octets ends in them
  pub ends-within : (p : Progress) → p.at ≤ length s → (reached (headers_from s p).ending).at ≤ length s
  ends-within =
      headers-ind (λ p w. p.at ≤ length s → (reached w.ending).at ≤ length s) (λ p e h. h) (λ p e h. h)
      (λ p q w e rest h. rest (another-within p q e).1)

  pub upper-within : 40 ≤ length s → (reached (upper_layer s)).at ≤ length s
  unfolding upper_layer
  upper-within h = ends-within (at_first s) h

  -- **without a fragment header walked over its field is 0**, so that the fragment data are 0
  abbrev Unfragmented : Progress → Type 0
  Unfragmented p = p.fragmented ≡ false → p.field ≡ 0

  abbrev Kept : Progress → Result (Option Progress) Progress → Type 0
  Kept p (Ok (Some q)) = Unfragmented p → Unfragmented q
  Kept p (Ok None) = Unit {0}
  Kept p (Err lost) = Unit {0}

  extension-kept : (p : Progress) → Kept p (over (extension_at s p))
  unfolding extension_at
  extension-kept p =
      by-test (not (eqb (offset_of_fragment p.field) 0) || ltb (length s) (p.at + extension_size s p.at)) (λ t. rw t tt) (λ t. rw t (λ h. h))

  fragment-kept : (p : Progress) → Kept p (over (fragment_at s p))
  unfolding fragment_at
  fragment-kept p = by-test (ltb (length s) (p.at + 8)) (λ t. rw t tt) (λ t. rw t (λ h e. apart (cc)))

  header-kept : (p : Progress) → Kept p (header_at s p)
  unfolding header_at
  header-kept p =
      by-test (is_walked p.kind) (λ t. rw t (extension-kept p))
      (λ t. by-test (is_first_fragment p) (λ f. rw (t, f) (fragment-kept p)) (λ f. rw (t, f) tt))

  ends-kept : (p : Progress) → Unfragmented p → Unfragmented (reached (headers_from s p).ending)
  ends-kept =
      headers-ind (λ p w. Unfragmented p → Unfragmented (reached w.ending)) (λ p e h. h) (λ p e h. h)
      (λ p q w e rest h. rest (subst (Kept p) e (header-kept p) h))

  pub unfragmented-zero : (reached (upper_layer s)).fragmented ≡ false → (reached (upper_layer s)).field ≡ 0
  unfolding upper_layer
  unfragmented-zero = ends-kept (at_first s) (λ e. refl)

-- how `upper_layer` goes on and comes to each of its answers
module _ (s : List ℕ) (p : Progress) (next : Result (Option Progress) Progress) (is : next ≡ header_at s p) (so_far : upper_layer s ≡ (headers_from s p).ending) where
  pub upper-on : (q : Progress) → next ≡ Ok (Some q) → upper_layer s ≡ (headers_from s q).ending
  upper-on q e = so_far ∙ rw (headers-on s p q (sym is ∙ e))

  pub upper-found : next ≡ Ok None → Ok p ≡ upper_layer s
  upper-found e = sym (so_far ∙ rw (headers-upper s p (sym is ∙ e)))

  pub upper-lost : (lost : Progress) (r : Result Progress Progress) → next ≡ Err lost → IsErrAnd r (λ q. q ≡ lost) → r ≡ upper_layer s
  upper-lost lost (Ok q) e h = absurd h
  upper-lost lost (Err q) e h = ap Err h ∙ sym (so_far ∙ rw (headers-lost s p lost (sym is ∙ e)))

-- how a walk ended says how far it had come, and whether at an upper layer
pub reached-ended : (found : Bool) (p : Progress) → reached (ended found p) ≡ p
reached-ended true p = refl
reached-ended false p = refl

pub found-ended : (found : Bool) (p : Progress) → is_ok (ended found p) ≡ found
found-ended true p = refl
found-ended false p = refl

-- the walk begins behind the packet's own header
pub upper-start : (s : List ℕ) (kind : ℕ) → kind ≡ get_or s 6 0
    → upper_layer s ≡ (headers_from s (record { kind = kind; at = 40; fragmented = false; field = 0 })).ending
unfolding upper_layer
upper-start s kind e = rw e
