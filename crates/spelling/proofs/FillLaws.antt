-- Clearing what is to be ignored where it stands: how the bodies of an accepted value become plain one after the other, a prefix by its last
-- octet, a list pair by pair. Assumes nothing.
use mathlib.Core.Path.{◌≡◌, refl, sym, ap, ap₂, ◌∙◌}
use mathlib.Core.Bool.{Bool, true, false, cond}
use mathlib.Core.List.{List, [], ◌∷◌, ◌++◌, map, append-nil, append_assoc}
use mathlib.Core.Logic.{⊎_elim}
use Prim.Native.Nat.{ℕ, zero, suc, ◌+◌, ◌-◌, ◌%◌, ◌<◌, ◌≤◌}
use native.Mathlib.Omega.{arith}
use native.Mathlib.Decide.{dec_lt}
use native.Mathlib.Nat.{add-zero, zero-add}
use native.Mathlib.Numerals.{add-one}
use lib.ListN.{length, get_or, take, drop, set, length-set, length-append, length-drop, take-append-drop, drop_of_length-le}
use lib.Seq.{drop-cons, drop-drop, drop-set-lt, drop-append-le, drop-append_seam, take-append-le, take_at, take-suc, length-take-le, append_snoc, get_or-drop, get_or-set_other, set-get_or}
use borrow.Rule.Slice.PartMut.{put_mid, same_len_mid, drop_put}
use Rattle.std.proofs.Common.{Result, Ok, Err, Option, Some, None}
use Rattle.octets.specs.Store.{stored}
use Rattle.octets.specs.Walk.{Walk}
use Rattle.octets.proofs.Cases.{apart}
use Rattle.octets.proofs.Facts.{Octets}
use Rattle.octets.proofs.StoreLaws.{length-stored}
use Rattle.rule.specs.declared.Family.{Family}
use Rattle.rule.specs.declared.Shape.{Shape}
use Rattle.rule.specs.declared.Refusal.{Refusal}
use Rattle.rule.specs.declared.Located.{Located}
use Rattle.spelling.specs.Plain.{Kind, Length, Operator, Operand, body_of, operand_after, after, plain_operator, plain_operand, plain_pattern, cleared_octet, plain_from, plain}
use Rattle.rule.specs.Shape.{shape_of}
use Rattle.rule.specs.Operator.{ends_list, size_of}
use Rattle.rule.specs.Component.{pairs_from, offset_at, prefix_end, body_end, component_at, located}
use Rattle.rule.specs.Value.{Component, spelled, between, components_from, components, check_value}
use Rattle.spelling.specs.PlainComponent.{plain_component}
use Rattle.rule.proofs.ShapeLaws.{one-octet-or-whole}
use Rattle.rule.proofs.OperatorLaws.{size-positive}
use Rattle.rule.proofs.ValueLaws.{Found, was-found, none_left, components-more, components-none, components-refused, accepts, accepted-head, accepted-walk}
use Rattle.rule.proofs.ComponentsLaws.{between-length}
use Rattle.spelling.proofs.PlainLaws.{length-plain-from, whole-operand}
use Rattle.spelling.proofs.SpellingLaws.{plain-whole}
use Rattle.spelling.proofs.PassingLaws.{plain_behind, all_plain, octet-cleared, value-passed, prefix-passed, prefix-cleared}
use Rattle.spelling.proofs.PlainWalkLaws.{body-alone, PairThere, pair-there, prefix-there, as-list}

-- how `clear_prefix` comes to what it leaves
module _ (family : Family) (body : List ℕ) (alone : prefix_end family body 0 ≡ Ok (length body)) (offset : ℕ) (is : offset ≡ offset_at family body 1) where
  pub prefix-kept : (get_or body 0 0 - offset) % 8 ≡ 0 → body ≡ plain_from family Length body
  prefix-kept h = sym (prefix-passed family body (prefix-there family body alone) (rw is at h))

  pub prefix-clear : (x : ℕ) → ((get_or body 0 0 - offset) % 8 ≡ 0 → ⊥) → x ≡ plain_pattern ((get_or body 0 0 - offset) % 8) (get_or body (length body - 1) 0)
      → set body (length body - 1) x ≡ plain_from family Length body
  prefix-clear x h e =
      let kept = ap (λ n. (get_or body 0 0 - n) % 8) is in
      sym (prefix-cleared family body (prefix-there family body alone) (λ z. h (kept ∙ z)) ∙ rw (← kept, ← e))

module _ (family : Family) (kind : ℕ) where
  abbrev shape_here : Shape
  shape_here = shape_of family kind

  -- a value is cleared by its first octet
  value-cleared : (n i : ℕ) (last : Bool) (s : List ℕ) (x : ℕ) → 1 ≤ n → n ≤ shape_here.largest → i + n ≤ length s → x ≡ plain_operand shape_here.ignored (get_or s i 0)
      → plain_behind family (Operand kind n last) i s ≡ plain_behind family (cond last Kind (Operator kind false)) (i + n) (set s i x)
  unfolding after cleared_octet operand_after
  value-cleared zero i last s x some allowed fits is = absurd (omega arith)
  value-cleared (suc n) i last s x some allowed fits is =
      ⊎_elim
      (λ narrow. let one : n ≡ 0 = omega arith in rw one (octet-cleared family (Operand kind 1 last) i s x (omega arith) is))
      (λ none.
      let kept : set s i x ≡ s = ap (set s i) (is ∙ whole-operand shape_here.ignored (get_or s i 0) none) ∙ set-get_or s i 0 in
      rw kept (value-passed family kind n i last s none fits))
      (one-octet-or-whole family kind)

  -- a pair by its operator too, and behind it stands the next operator, or nothing
  pair-cleared : (s : List ℕ) (at : ℕ) (first : Bool) (x y : ℕ) → let operator = get_or s at 0 in let next = at + 1 + size_of operator in
      1 ≤ size_of operator → size_of operator ≤ shape_here.largest → next ≤ length s → (next < length s → ends_list operator ≡ false)
      → x ≡ plain_operator shape_here.bitmask first operator → y ≡ plain_operand shape_here.ignored (get_or s (at + 1) 0)
      → plain_behind family (Operator kind first) at s ≡ plain_behind family (Operator kind false) next (set (set s at x) (at + 1) y)
  unfolding after cleared_octet
  pair-cleared s at first x y some allowed fits onward plainly says =
      let operator = get_or s at 0 in
      let next = at + 1 + size_of operator in
      let done = set (set s at x) (at + 1) y in
      let l = length-set s at x in
      let m = length-set (set s at x) (at + 1) y in
      let same = get_or-set_other s at (at + 1) x 0 (λ z. omega arith) in
      octet-cleared family (Operator kind first) at s x (omega arith) plainly
      ∙ value-cleared (size_of operator) (at + 1) (ends_list operator) (set s at x) y some allowed (omega arith) (says ∙ ap (plain_operand shape_here.ignored) (sym same))
      ∙ elim (dec_lt next (length s)) [
        | yes h ↦ ap (λ (last : Bool). plain_behind family (cond last Kind (Operator kind false)) next done) (onward h)
        | no h ↦ all_plain family (cond (ends_list operator) Kind (Operator kind false)) next done (omega arith) ∙ sym (all_plain family (Operator kind false) next done (omega arith))
      ]

-- a list of which the pairs before a place are cleared: what follows is as it was, and spelling it plainly completes the list
pub record Clearing (kind : ℕ) (shape : Shape) (body work : List ℕ) (first : Bool) (at : ℕ) : Type 0 where
  pub completes : (family : Family) → shape ≡ shape_of family kind → plain_behind family (Operator kind first) at work ≡ plain_from family (Operator kind true) body
  pub long : length work ≡ length body
  pub rest : drop at work ≡ drop at body
  pub ends : at < length body → (pairs_from shape.largest body at).ending ≡ Ok (length body)

-- what `clear_body` leaves of a prefix
pub cleared-prefix : (family : Family) (kind : ℕ) (body work : List ℕ) (shape : Shape) → shape ≡ shape_of family kind → shape.prefix ≡ true
    → work ≡ plain_from family Length body → work ≡ plain_from family (body_of family kind) body
unfolding body_of
cleared-prefix family kind body work shape is t e = rw (← is, t) e

-- how it goes along a list, and what it leaves of one
pub list-nearer : (work : List ℕ) (at size x y : ℕ) → at < length work → length (set (set work at x) (at + 1) y) - (at + 1 + size) < length work - at
list-nearer work at size x y h = simp length-set (omega arith)

module _ (kind : ℕ) (shape : Shape) (body : List ℕ) where
  pub list-starts : (family : Family) → shape ≡ shape_of family kind → shape.prefix ≡ false → body_end family kind body 0 ≡ Ok (length body) → Clearing kind shape body body true 0
  list-starts family is t alone =
      record { completes = λ f same. refl; long = refl; rest = refl; ends = λ h. rw is (as-list family kind body shape is alone t) }

  module _ (work : List ℕ) (first : Bool) (at : ℕ) (so_far : Clearing kind shape body work first at) where
    pub list-cleared : (family : Family) → shape ≡ shape_of family kind → shape.prefix ≡ false → length work ≤ at → work ≡ plain_from family (body_of family kind) body
    unfolding body_of
    list-cleared family is t h = rw (← is, t) (sym (all_plain family (Operator kind first) at work h) ∙ so_far.completes family is)

    module _ (inside : at < length work) where
      same-operator : get_or work at 0 ≡ get_or body at 0
      same-operator = sym (here work) ∙ ap (λ (s : List ℕ). get_or s 0 0) so_far.rest ∙ here body
        where
          here : (s : List ℕ) → get_or (drop at s) 0 0 ≡ get_or s at 0
          here s = get_or-drop at s 0 0 ∙ ap (λ n. get_or s n 0) (add-zero at)

      pair : PairThere shape.largest body at
      pair = let long = so_far.long in pair-there shape.largest body at (so_far.ends (omega arith))

      some : 1 ≤ size_of (get_or work at 0)
      some = size-positive (get_or work at 0)

      fits : at + 1 + size_of (get_or work at 0) ≤ length work
      fits = rw (same-operator, so_far.long) pair.fits

      pub value-some : at + 1 < length work
      value-some = let f = fits in let n = some in omega arith

      pub list_on : (size x y : ℕ) → size ≡ size_of (get_or work at 0) → x ≡ plain_operator shape.bitmask first (get_or work at 0)
          → y ≡ plain_operand shape.ignored (get_or work (at + 1) 0) → Clearing kind shape body (set (set work at x) (at + 1) y) false (at + 1 + size)
      list_on size x y is plainly says =
          let n = size_of (get_or work at 0) in
          let long = so_far.long in
          let positive = some in
          let enough = fits in
          let same = ap size_of same-operator in
          rw is (record {
            completes = λ family e.
                sym (pair-cleared family kind work at first x y positive (rw (same, ← e) pair.allowed) enough
                (λ h. ap ends_list same-operator ∙ (pair.onward (omega arith)).0) (rw (← e) plainly) (rw (← e) says))
                ∙ so_far.completes family e;
            long = simp length-set long;
            rest =
                drop-set-lt (at + 1 + n) (set work at x) (at + 1) y (omega arith) ∙ drop-set-lt (at + 1 + n) work at x (omega arith)
                ∙ behind (1 + n) (omega arith) work ∙ ap (drop (1 + n)) so_far.rest ∙ sym (behind (1 + n) (omega arith) body);
            ends = λ h. rw same (pair.onward (omega arith)).1;
          })
        where
          behind : (m : ℕ) → at + 1 + size_of (get_or work at 0) ≡ at + m → (s : List ℕ) → drop (at + 1 + size_of (get_or work at 0)) s ≡ drop m (drop at s)
          behind m e s = ap (λ n. drop n s) e ∙ sym (drop-drop m at s)

-- a working array of which the bodies before a place are cleared: the value stands there from the place on, and spelling its further components
-- plainly completes its plain spelling; `held` is the array as it was when the value had been stored
pub record Filling (family : Family) (v held work : List ℕ) (at previous : ℕ) : Type 0 where
  pub within : at ≤ length v
  pub long : length work ≡ length held
  pub completes : take at work ++ spelled (map (plain_component family) (components_from family v (record { at = at; previous = previous })).items) ≡ plain family v
  pub accepted : accepts family v at previous ≡ Ok tt
  pub rest : drop at work ≡ drop at v ++ drop (length v) held

-- how `fill_plain` goes on and comes to what it leaves
module _ (family : Family) (v start held : List ℕ) (stands : held ≡ stored start 0 v) (room : length v ≤ length start) where
  abbrev behind_value : List ℕ
  behind_value = drop (length v) start

  held-is : held ≡ v ++ behind_value
  unfolding stored
  held-is = stands ∙ rw (zero-add (length v))

  held-behind : drop (length v) held ≡ behind_value
  held-behind = ap (drop (length v)) held-is ∙ drop-append_seam v behind_value

  held-long : length held ≡ length start
  held-long = ap length stands ∙ length-stored start 0 v (omega arith)

  pub fill-starts : Octets v → check_value family v ≡ Ok tt → Filling family v held held family.head 0
  unfolding components
  fill-starts o ok =
      let h = accepted-head family v ok in
      record {
        within = omega arith;
        long = refl;
        completes =
            ap (λ (l : List ℕ). l ++ spelled (map (plain_component family) (components family v)))
            (ap (take family.head) held-is ∙ take-append-le family.head v behind_value (omega arith))
            ∙ plain-whole family v o ok;
        accepted = accepted-walk family v ok;
        rest = ap (drop family.head) held-is ∙ drop-append-le family.head v behind_value (omega arith) ∙ ap (λ (l : List ℕ). drop family.head v ++ l) (sym held-behind);
      }

  module _ (work : List ℕ) (at previous : ℕ) (so_far : Filling family v held work at previous) where
    pub fill-long : length work ≡ length start
    fill-long = so_far.long ∙ held-long

    module _ (next : Result (Option Located) Refusal) (is : next ≡ component_at family v at previous) where
      pub fill_done : next ≡ Ok None → work ≡ plain family v ++ drop (length v) start
      unfolding spelled
      fill_done e =
          let none = sym is ∙ e in
          let all : at ≡ length v = let w = so_far.within in let l = none_left family v at previous none in omega arith in
          let front : take at work ≡ plain family v
          = sym (append-nil (take at work))
          ∙ ap (λ (w : Walk Component (Result Unit Refusal)). take at work ++ spelled (map (plain_component family) w.items)) (sym (components-none family v at previous none))
          ∙ so_far.completes in
          let back : drop at work ≡ behind_value
          = so_far.rest ∙ rw (drop_of_length-le v {i = at} (omega arith)) held-behind in
          sym (take-append-drop at work) ∙ ap₂ (λ (a b : List ℕ). a ++ b) front back

      pub fill-never : (refusal : Refusal) → next ≡ Err refusal → work ≡ plain family v ++ drop (length v) start
      fill-never refusal e =
          let z : Err refusal ≡ Ok tt
          = sym (ap (λ (w : Walk Component (Result Unit Refusal)). w.ending) (components-refused family v at previous refusal (sym is ∙ e))) ∙ so_far.accepted in
          apart (cc)

      module _ (kind behind : ℕ) (another : next ≡ Ok (Some (located kind behind))) where
        here : Found family v at previous kind behind
        here = was-found family v at previous kind behind (sym is ∙ another)

        pub fill-inside : (at + 1 < behind) × (behind ≤ length work)
        fill-inside = let w = here.within in let l = fill-long in (w.0, omega arith)

        pub fill-nearer : length v - behind < length v - at
        fill-nearer = let w = here.within in omega arith

        -- what stands n octets behind the place
        further : (n : ℕ) → at + n ≤ length v → drop (at + n) work ≡ drop (at + n) v ++ drop (length v) held
        further n h =
            let l = length-drop at v in
            sym (drop-drop n at work) ∙ ap (drop n) so_far.rest ∙ drop-append-le n (drop at v) (drop (length v) held) (omega arith)
            ∙ ap (λ (l : List ℕ). l ++ drop (length v) held) (drop-drop n at v)

        same_body : between work (at + 1) behind ≡ between v (at + 1) behind
        same_body =
            let w = here.within in
            let l = length-drop (at + 1) v in
            ap (take (behind - (at + 1))) (further 1 (omega arith)) ∙ take-append-le (behind - (at + 1)) (drop (at + 1) v) (drop (length v) held) (omega arith)

        pub fill-body : body_end family kind (between work (at + 1) behind) 0 ≡ Ok (length (between work (at + 1) behind))
        fill-body = rw same_body (body-alone family kind v (at + 1) behind here.ends)

        type-there : take (at + 1) work ≡ take at work ++ (kind ∷ [])
        type-there =
            let inside = here.inside in
            let l = fill-long in
            let octet : get_or work at 0 ≡ kind
            = sym (get_or-drop at work 0 0 ∙ ap (λ n. get_or work n 0) (add-zero at)) ∙ ap (λ (s : List ℕ). get_or s 0 0) (so_far.rest ∙ ap (λ (s : List ℕ). s ++ drop (length v) held) (drop-cons v at 0 inside))
            ∙ sym here.is in
            ap (λ n. take n work) (add-one at) ∙ take-suc work at 0 (omega arith) ∙ ap (λ x. take at work ++ (x ∷ [])) octet

        pub fill_on : (body : List ℕ) → body ≡ plain_from family (body_of family kind) (between work (at + 1) behind)
            → Filling family v held (put_mid (at + 1) (behind - (at + 1)) work body) behind kind
        unfolding spelled
        fill_on body plainly =
            let w = here.within in
            let l = fill-long in
            let as_long : length body ≡ length (between work (at + 1) behind) = ap length plainly ∙ length-plain-from family (body_of family kind) (between work (at + 1) behind) in
            let size : length body ≡ behind - (at + 1) = as_long ∙ between-length work (at + 1) behind (omega arith) (omega arith) in
            let more = components-more family v at previous kind behind (sym is ∙ another) in
            let others = spelled (map (plain_component family) (components_from family v (record { at = behind; previous = kind })).items) in
            let spelling : body ≡ plain_from family (body_of family kind) (between v (at + 1) behind) = plainly ∙ ap (plain_from family (body_of family kind)) same_body in
            let lead = length-take-le (at + 1) work (omega arith) in
            let front : take behind (put_mid (at + 1) (behind - (at + 1)) work body) ≡ take (at + 1) work ++ body
            = ap (take behind) (sym (append_assoc (take (at + 1) work) body (drop (behind - (at + 1)) (drop (at + 1) work))))
            ∙ take_at (take (at + 1) work ++ body) (drop (behind - (at + 1)) (drop (at + 1) work)) behind (simp length-append (omega arith)) in
            let one_more : kind ∷ body ++ others ≡ spelled (map (plain_component family) (components_from family v (record { at = at; previous = previous })).items)
            = ap (λ (s : List ℕ). kind ∷ s ++ others) spelling ∙ sym (ap (λ (w : Walk Component (Result Unit Refusal)). spelled (map (plain_component family) w.items)) more) in
            let end : at + (behind - at) ≡ behind = omega arith in
            record {
              within = w.1;
              long = same_len_mid (at + 1) (behind - (at + 1)) work body as_long ∙ so_far.long;
              completes =
                  ap (λ (s : List ℕ). s ++ others) (front ∙ ap (λ (s : List ℕ). s ++ body) type-there)
                  ∙ append_assoc (take at work ++ (kind ∷ [])) body others
                  ∙ append_snoc (take at work) kind (body ++ others)
                  ∙ ap (λ (s : List ℕ). take at work ++ s) one_more
                  ∙ so_far.completes;
              accepted = sym (ap (λ (w : Walk Component (Result Unit Refusal)). w.ending) more) ∙ so_far.accepted;
              rest = drop_put (at + 1) behind work body (omega arith) (omega arith) size ∙ rw end at (further (behind - at) (omega arith));
            }
