-- What an announce line says could be lent to the door: its rule is octets, and its originator has 32 bits. Assumes nothing.
use mathlib.Core.Path.{◌≡◌, subst}
use mathlib.Core.Bool.{true, false, ◌&&◌}
use mathlib.Core.List.{List, [], ◌∷◌}
use Prim.Native.Nat.{ℕ, ◌^◌, ◌<◌}
use lib.Dec.{ltb}
use lib.ListN.{length}
use borrow.Author.Tests.{ltb-true}
use Rattle.octets.specs.Test.{every}
use Rattle.octets.proofs.Cases.{by-test, apart, both}
use Rattle.octets.proofs.Facts.{Octets}
use Rattle.text.specs.Hex.{are_octets, octets_in}
use Rattle.text.specs.Decimal.{starts_well, is_number, number_in}
use Rattle.text.specs.Field.{fields}
use Rattle.text.specs.Spelling.{is_digit}
use Rattle.text.proofs.HexLaws.{digits-octets}
use Rattle.line.specs.Line.{announce, field, is_word, is_rule, is_route_line, is_announce_line, is_withdraw_line, is_list_line, are_of, said, line_of, most_signs}

-- what the fields of an announce line are
announced-fields : (fs : List (List ℕ)) → is_announce_line fs ≡ true → Octets (octets_in (field 1 fs)) × (number_in (field 2 fs) < 2 ^ 32)
unfolding are_of is_number
announced-fields [] e = apart (cc)
announced-fields (word ∷ []) e = let z = (both (is_word "announce" word) false e).1 in apart (cc)
announced-fields (word ∷ rule ∷ []) e =
    let z = (both (is_rule rule) false (both (is_word "announce" word) (is_rule rule && false) e).1).1 in
    apart (cc)
announced-fields (word ∷ rule ∷ number ∷ fs) e =
    let rest = (both (is_word "announce" word) (is_rule rule && (is_number number && are_of (are_octets ∷ []) fs)) e).1 in
    let behind = both (is_rule rule) (is_number number && are_of (are_octets ∷ []) fs) rest in
    let within = (both (is_number number) (are_of (are_octets ∷ []) fs) behind.1).0 in
    let small = (both (every is_digit number) (ltb (number_in number) (2 ^ 32)) (both (starts_well number) (every is_digit number && ltb (number_in number) (2 ^ 32)) within).1).1 in (
      digits-octets rule (both (ltb 0 (length rule)) (are_octets rule) behind.0).1,
      ltb-true (number_in number) (2 ^ 32) small,
    )

pub announced-could : (line rule : List ℕ) (originator : ℕ) (communities : List ℕ) → line_of line ≡ announce rule originator communities
    → Octets rule × (originator < 2 ^ 32)
unfolding line_of said
announced-could line rule originator communities e =
    by-test (ltb most_signs (length line)) (λ h. let z = rw h at e in apart (cc)) (λ h. go (fields line) (rw h at e))
  where
    go : (fs : List (List ℕ)) → said fs ≡ announce rule originator communities → Octets rule × (originator < 2 ^ 32)
    go fs e =
        by-test (is_route_line fs) (λ r. let z = rw r at e in apart (cc))
        (λ r.
        by-test (is_announce_line fs)
        (λ a.
        let same : announce (octets_in (field 1 fs)) (number_in (field 2 fs)) (octets_in (field 3 fs)) ≡ announce rule originator communities = rw (r, a) at e in
        let rules : octets_in (field 1 fs) ≡ rule = cc in
        let numbers : number_in (field 2 fs) ≡ originator = cc in
        let could = announced-fields fs a in
        (subst Octets rules could.0, subst (λ (n : ℕ). n < 2 ^ 32) numbers could.1))
        (λ a.
        by-test (is_withdraw_line fs) (λ w. let z = rw (r, a, w) at e in apart (cc))
        (λ w. by-test (is_list_line fs) (λ l. let z = rw (r, a, w, l) at e in apart (cc)) (λ l. let z = rw (r, a, w, l) at e in apart (cc)))))
