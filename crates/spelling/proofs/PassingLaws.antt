-- Going along octets of which those from a place on are still to be spelled plainly: the octet at the place is cleared, or passed over where
-- it loses no bit, as the length and the offset of a prefix do, all octets of its pattern but the last, and a value of which no bit is
-- ignored. Assumes nothing.
use mathlib.Core.Path.{◌≡◌, refl, sym, ap, ◌∙◌}
use mathlib.Core.Bool.{Bool, false, cond}
use mathlib.Core.List.{List, ◌++◌, append-nil}
use Prim.Native.Nat.{ℕ, zero, suc, ◌+◌, ◌-◌, ◌*◌, ◌/◌, ◌%◌, ◌<◌, ◌≤◌}
use native.Mathlib.Omega.{arith}
use native.Mathlib.Decide.{dec_lt}
use native.Mathlib.Numerals.{add-one}
use lib.ListN.{length, get_or, take, drop, set, length-set, drop_of_length-le}
use lib.Seq.{drop-cons, take_all, take-suc-set, drop-set-lt, append_snoc, set-get_or}
use borrow.Author.Tests.{lt-leb, lt-ltb}
use Rattle.octets.proofs.Cases.{by-test}
use Rattle.rule.specs.declared.Family.{Family}
use Rattle.spelling.specs.Plain.{Expected, Kind, Length, Offset, PatternOctet, Operator, Operand, pattern_after, operand_after, after, plain_pattern, cleared_octet, plain_from}
use Rattle.rule.specs.Shape.{shape_of}
use Rattle.rule.specs.Component.{lead_of, offset_at}
use Rattle.rule.proofs.ComponentLaws.{lead-with, lead-without, lead-some, offset-with, offset-without}
use Rattle.rule.proofs.ComponentsLaws.{PrefixBody}
use Rattle.spelling.proofs.PlainLaws.{whole-octet, whole-operand, pattern-some, after-length-offset, after-length, after-offset}

module _ (family : Family) where
  -- the octets up to a place as they are, and behind them, where the next is as expected, the plain spelling of the rest
  abbrev pub plain_behind : Expected → ℕ → List ℕ → List ℕ
  plain_behind e i s = take i s ++ plain_from family e (drop i s)

  -- where none is left, all is spelled
  pub all_plain : (e : Expected) (i : ℕ) (s : List ℕ) → length s ≤ i → plain_behind e i s ≡ s
  unfolding plain_from
  all_plain e i s h = rw (take_all i s h, drop_of_length-le s h) (append-nil s)

  pub octet-cleared : (e : Expected) (i : ℕ) (s : List ℕ) (x : ℕ) → i < length s → x ≡ cleared_octet family e (get_or s i 0)
      → plain_behind e i s ≡ plain_behind (after family e (get_or s i 0)) (i + 1) (set s i x)
  unfolding plain_from
  octet-cleared e i s x h is =
      let next = after family e (get_or s i 0) in
      rw (add-one, take-suc-set s i x h, drop-set-lt (suc i) s i x (omega arith), append_snoc (take i s) x (plain_from family next (drop (suc i) s)), drop-cons s i 0 h, is)

  pub octet-passed : (e : Expected) (i : ℕ) (s : List ℕ) → i < length s → cleared_octet family e (get_or s i 0) ≡ get_or s i 0
      → plain_behind e i s ≡ plain_behind (after family e (get_or s i 0)) (i + 1) s
  octet-passed e i s h kept =
      let next = after family e (get_or s i 0) in
      octet-cleared e i s (get_or s i 0) h (sym kept) ∙ ap (plain_behind next (i + 1)) (set-get_or s i 0)

  -- a prefix's length and offset
  pub lead-passed : (s : List ℕ) → lead_of family ≤ length s
      → plain_from family Length s ≡ plain_behind (pattern_after (get_or s 0 0) (offset_at family s 1)) (lead_of family) s
  unfolding cleared_octet
  lead-passed s h =
      let bits = get_or s 0 0 in
      let offset = get_or s 1 0 in
      let some = lead-some family in
      octet-passed Length 0 s (omega arith) refl
      ∙ by-test family.offsets
      (λ t.
      let lead = lead-with family t in
      rw (← after-length-offset family Length bits refl t, lead, offset-with family s 1 t)
      (octet-passed (Offset bits) 1 s (omega arith) refl ∙ rw (← after-offset family (Offset bits) offset bits (pattern_after bits offset) refl refl)))
      (λ t. rw (← after-length family Length bits (pattern_after bits 0) refl t refl, lead-without family t, offset-without family s 1 t))

  -- octets of a pattern before its last one
  pub pattern-passed : (n left i : ℕ) (s : List ℕ) → 8 * n < left → i + n ≤ length s
      → plain_behind (PatternOctet left) i s ≡ plain_behind (PatternOctet (left - 8 * n)) (i + n) s
  unfolding after cleared_octet
  pattern-passed zero left i s h k =
      let e : left - 8 * 0 ≡ left = omega arith in
      let z : i + 0 ≡ i = omega arith in
      rw (e, z)
  pattern-passed (suc n) left i s h k =
      let e : left - 8 * suc n ≡ left - 8 - 8 * n = omega arith in
      let z : i + suc n ≡ i + 1 + n = omega arith in
      octet-passed (PatternOctet left) i s (omega arith) (sym (whole-octet left (get_or s i 0) (omega arith)))
      ∙ rw (lt-leb left 8 (omega arith), e, z) (pattern-passed n (left - 8) (i + 1) s (omega arith) (omega arith))

  -- octets of a value of which no bit is ignored
  pub value-passed : (kind n i : ℕ) (last : Bool) (s : List ℕ) → (shape_of family kind).ignored ≡ 0 → i + suc n ≤ length s
      → plain_behind (Operand kind (suc n) last) i s ≡ plain_behind (cond last Kind (Operator kind false)) (i + suc n) s
  unfolding after cleared_octet operand_after
  value-passed kind zero i last s none k = octet-passed (Operand kind 1 last) i s (omega arith) (whole-operand (shape_of family kind).ignored (get_or s i 0) none)
  value-passed kind (suc n) i last s none k =
      let more : suc (suc n) - 1 ≡ suc n = omega arith in
      let z : i + suc (suc n) ≡ i + 1 + suc n = omega arith in
      octet-passed (Operand kind (suc (suc n)) last) i s (omega arith) (whole-operand (shape_of family kind).ignored (get_or s i 0) none)
      ∙ rw (lt-ltb 1 (suc (suc n)) (omega arith), more, z) (value-passed kind n (i + 1) last s none (omega arith))

-- a prefix is plain where its bits end with an octet, and else but for its last octet
module _ (family : Family) (body : List ℕ) (p : PrefixBody family body) where
  abbrev pub left : ℕ
  left = get_or body 0 0 - offset_at family body 1

  abbrev pub last_octet : ℕ
  last_octet = get_or body (length body - 1) 0

  to_last : 0 < left → plain_from family Length body ≡ plain_behind family (PatternOctet (left - 8 * ((left - 1) / 8))) (length body - 1) body
  to_last some =
      let whole = p.whole in
      let n = (left - 1) / 8 in
      let place : lead_of family + n ≡ length body - 1 = omega arith in
      lead-passed family body (omega arith)
      ∙ rw (← pattern-some (get_or body 0 0) (offset_at family body 1) (omega arith), ← place) (pattern-passed family n left (lead_of family) body (omega arith) (omega arith))

  pub prefix-passed : left % 8 ≡ 0 → plain_from family Length body ≡ body
  unfolding cleared_octet
  prefix-passed all =
      let whole = p.whole in
      elim (dec_lt 0 left) [
        | yes h ↦
            let kept : left - 8 * ((left - 1) / 8) ≡ 8 = omega arith in
            to_last h
            ∙ rw kept (octet-passed family (PatternOctet 8) (length body - 1) body (omega arith) (sym (whole-octet 8 last_octet (omega arith))))
            ∙ all_plain family (after family (PatternOctet 8) last_octet) (length body - 1 + 1) body (omega arith)
        | no h ↦ lead-passed family body (omega arith) ∙ all_plain family (pattern_after (get_or body 0 0) (offset_at family body 1)) (lead_of family) body (omega arith)
      ]

  pub prefix-cleared : (left % 8 ≡ 0 → ⊥) → plain_from family Length body ≡ set body (length body - 1) (plain_pattern (left % 8) last_octet)
  unfolding cleared_octet
  prefix-cleared some =
      let whole = p.whole in
      let kept : left - 8 * ((left - 1) / 8) ≡ left % 8 = omega arith in
      let x = plain_pattern (left % 8) last_octet in
      to_last (omega arith)
      ∙ rw kept (octet-cleared family (PatternOctet (left % 8)) (length body - 1) body x (omega arith) refl)
      ∙ all_plain family (after family (PatternOctet (left % 8)) last_octet) (length body - 1 + 1) (set body (length body - 1) x) (simp length-set (omega arith))
