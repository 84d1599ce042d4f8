-- What a line says by its first field and by whether those behind it are of the kinds that they are to be. Assumes nothing.
use mathlib.Core.Path.{◌≡◌, sym, ◌∙◌}
use mathlib.Core.Bool.{Bool, true, false}
use mathlib.Core.List.{List, [], ◌∷◌}
use Prim.Native.Nat.{ℕ, ◌<◌, ◌≤◌}
use native.Mathlib.Omega.{arith}
use native.Mathlib.Nat.{sub-zero}
use lib.ListN.{length, take}
use borrow.Author.Tests.{le-ltb}
use Rattle.octets.specs.Test.{same_list}
use Rattle.octets.proofs.TestLaws.{same-list}
use Rattle.rule.specs.Value.{between}
use Rattle.text.specs.Spelling.{quoted}
use Rattle.text.specs.Hex.{are_octets, word_in}
use Rattle.text.specs.Decimal.{is_number}
use Rattle.text.specs.Field.{field_end}
use Rattle.text.proofs.FieldLaws.{fields-from}
use Rattle.std.proofs.Common.{Option, Some, None}
use Rattle.line.specs.declared.Form.{Form}
use Rattle.line.specs.declared.Form.TheVariants.{Route, Announce, Withdraw, Listing}
use Rattle.line.specs.Line.{Line, other, is_address, is_rule, are_of, said, line_of, most_signs}
use Rattle.line.specs.Form.{behind, Fielded, Numbered, Says}
use Rattle.line.proofs.CutLaws.{too_long}
use Rattle.line.proofs.FormLaws.{at-end}

-- a line that is known to say nothing
unknown : (line : List ℕ) (what : Line) → what ≡ other → Says line None what
unknown line what e = record { is = sym e; within = tt }

-- the fields behind a first field, where they are not of the kinds that it asks for
module _ (line : List ℕ) (fs : List (List ℕ)) where
  pub no-route : are_of (is_address ∷ is_number ∷ is_number ∷ is_number ∷ []) fs ≡ false → Says line None (said (quoted "route" ∷ fs))
  unfolding said are_of same_list
  no-route e = unknown line _ (rw e)

  pub no-announce : are_of (is_rule ∷ is_number ∷ are_octets ∷ []) fs ≡ false → Says line None (said (quoted "announce" ∷ fs))
  unfolding said are_of same_list
  no-announce e = unknown line _ (rw e)

  pub no-withdraw : are_of (is_rule ∷ []) fs ≡ false → Says line None (said (quoted "withdraw" ∷ fs))
  unfolding said are_of same_list
  no-withdraw e = unknown line _ (rw e)

  pub no-list : are_of [] fs ≡ false → Says line None (said (quoted "list" ∷ fs))
  unfolding said are_of same_list
  no-list e = unknown line _ (rw e)

-- and where they are
module _ (line : List ℕ) (word : ℕ) where
  pub route-read : (start end : ℕ) → Fielded is_address line word start end
      → (size size_end : ℕ) → Numbered line end size size_end
      → (originator originator_end : ℕ) → Numbered line size_end originator originator_end
      → (neighbour last : ℕ) → Numbered line originator_end neighbour last
      → length line ≤ last → (address : ℕ) → address ≡ word_in (between line start end)
      → Says line (Some (Route address size originator neighbour)) (said (quoted "route" ∷ behind line word))
  unfolding said are_of same_list
  route-read start end f size size_end n originator originator_end o neighbour last a h address e =
      record {
        is = rw (
          f.is,
          n.there.is,
          o.there.is,
          a.there.is,
          at-end line last h,
          f.good,
          n.there.good,
          o.there.good,
          a.there.good,
          e,
          n.says,
          o.says,
          a.says,
        );
        within = tt;
      }

  -- the last field ends with the line
  whole : (test : List ℕ → Bool) (end start stop : ℕ) → Fielded test line end start stop → length line ≤ stop → stop ≡ length line
  whole test end start stop f h = omega (arith, f.within)

  pub announce-read : (start end : ℕ) → Fielded is_rule line word start end
      → (originator stop : ℕ) → Numbered line end originator stop
      → (communities last : ℕ) → Fielded are_octets line stop communities last
      → length line ≤ last → Says line (Some (Announce start end originator communities)) (said (quoted "announce" ∷ behind line word))
  unfolding said are_of same_list
  announce-read start end f originator stop n communities last a h =
      let w = a.within in
      let u = a.rising in
      record {
        is = rw (← whole are_octets stop communities last a h, f.is, n.there.is, a.is, at-end line last h, f.good, n.there.good, a.good, n.says);
        within = (f.rising, (f.within, omega arith));
      }

  pub withdraw-read : (start end : ℕ) → Fielded is_rule line word start end → length line ≤ end
      → Says line (Some (Withdraw start)) (said (quoted "withdraw" ∷ behind line word))
  unfolding said are_of same_list
  withdraw-read start end f h =
      let w = f.within in
      let u = f.rising in
      record { is = rw (← whole is_rule word start end f h, f.is, at-end line end h, f.good); within = omega arith }

  pub list_read : length line ≤ word → Says line (Some Listing) (said (quoted "list" ∷ behind line word))
  unfolding said are_of same_list
  list_read h = record { is = rw (at-end line word h); within = tt }

-- a line, by its first field
pub line-long : (line : List ℕ) → most_signs < length line → Says line None (line_of line)
line-long line h = unknown line _ (too_long line h)

module _ (line : List ℕ) (short : length line ≤ most_signs) (end : ℕ) (e : end ≡ field_end line 0) where
  line-fields : line_of line ≡ said (take end line ∷ behind line end)
  unfolding line_of behind
  line-fields =
      let f = fields-from line 0 end (omega arith) e in
      rw (le-ltb most_signs (length line) short, f, sub-zero end)

  pub line-is : (word : List ℕ) (is : Bool) → is ≡ same_list (take end line) word → is ≡ true → (form : Option Form) → Says line form (said (word ∷ behind line end))
      → Says line form (line_of line)
  line-is word is same t form says =
      let w = same-list (take end line) word (sym same ∙ t) in
      record { is = says.is ∙ sym (line-fields ∙ rw w); within = says.within }

  pub line_other : same_list (take end line) (quoted "route") ≡ false → same_list (take end line) (quoted "announce") ≡ false
      → same_list (take end line) (quoted "withdraw") ≡ false → same_list (take end line) (quoted "list") ≡ false → Says line None (line_of line)
  unfolding said are_of
  line_other r a w l = unknown line _ (line-fields ∙ rw (r, a, w, l))
