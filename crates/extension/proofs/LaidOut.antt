-- **Headers laid out as RFC 8200 draws them are walked over.** Headers 0, 43 and 60 are written here one behind another, each with the number
-- of the next one in its first octet, its length in units of 8 octets in its second, and that many octets; a fragment header as section 4.5
-- draws it. The walk over them comes to what stands behind them, for all values and any number of headers; what is no header to walk over is
-- the upper layer, a second fragment header among them. Assumes nothing.
use mathlib.Core.Path.{◌≡◌, refl, ap, sym, ◌∙◌}
use mathlib.Core.Bool.{true, false, and-false}
use mathlib.Core.List.{List, [], ◌∷◌, ◌++◌, append_assoc}
use Prim.Native.Nat.{ℕ, ◌+◌, ◌*◌, ◌<◌}
use native.Mathlib.Omega.{arith}
use native.Mathlib.Nat.{add-zero}
use native.Mathlib.Decide.{dec_lt}
use lib.Bits.{bit_and, and_mask}
use lib.Dec.{eqb}
use lib.ListN.{length, get_or, length-append, get_or-append}
use lib.Seq.{get_or-append-add}
use mathlib.Core.Logic.{◌⊎◌, inl, inr}
use borrow.Author.Tests.{lt-ltb, ne_eqb, eqb-true}
use Rattle.std.proofs.Common.{Some, Ok, Err}
use Rattle.octets.proofs.Cases.{by-test}
use Rattle.octets.specs.Number.{number_at, octets_of}
use Rattle.octets.proofs.NumberLaws.{number-octets, number_behind, length-octets_of}
use Rattle.extension.specs.declared.Progress.{Progress}
use Rattle.extension.specs.Extension.{is_walked, is_first_fragment, offset_of_fragment, more_flag, extension_size, extension_at, fragment_at, header_at, ended, headers_from, upper_layer}
use Rattle.extension.proofs.ExtensionLaws.{extension-later, extension-whole, fragment-whole, header-walked, header-fragment, header-upper, headers-on, headers-upper, headers-lost, upper-start}

-- 0, 43 and 60 are walked over, and no other number
pub walked-only : (kind : ℕ) → is_walked kind ≡ true → (kind ≡ 0) ⊎ ((kind ≡ 43) ⊎ (kind ≡ 60))
walked-only kind e =
    by-test (eqb kind 0) (λ t. inl (eqb-true kind 0 t))
    (λ a. by-test (eqb kind 43) (λ t. inr (inl (eqb-true kind 43 t))) (λ b. inr (inr (eqb-true kind 60 (rw (a, b) at e)))))

-- a header 0, 43 or 60: its number, the units of 8 octets behind its first, and the octets behind its second one
pub record Extension : Type 0 where
  pub kind : ℕ
  pub units : ℕ
  pub content : List ℕ

-- it is one that is walked over, and has as many octets as it says
pub record Whole (e : Extension) : Type 0 where
  pub walked : is_walked e.kind ≡ true
  pub sized : length e.content ≡ e.units * 8 + 6

-- the number of the first header, before what has the number `upper`
abbrev pub first_of : List Extension → ℕ → ℕ
first_of [] upper = upper
first_of (e ∷ es) upper = e.kind

-- the octets of headers one behind another, and those that follow
abbrev pub laid_out : List Extension → ℕ → List ℕ → List ℕ
laid_out [] upper rest = rest
laid_out (e ∷ es) upper rest = first_of es upper ∷ e.units ∷ (e.content ++ laid_out es upper rest)

-- how many octets they have
abbrev pub size_of_all : List Extension → ℕ
size_of_all [] = 0
size_of_all (e ∷ es) = (e.units + 1) * 8 + size_of_all es

-- every one of them is whole
abbrev pub AllWhole : List Extension → Type 0
AllWhole [] = Unit {0}
AllWhole (e ∷ es) = Whole e × AllWhole es

-- where a walk has come to that goes on behind octets, of which these were the last headers
abbrev pub moved : Progress → ℕ → ℕ → Progress
moved p kind octets = record { kind = kind; at = p.at + octets; fragmented = p.fragmented; field = p.field }

-- the octets that follow others, counted from the first of both
behind : (pre s : List ℕ) (at n : ℕ) → at ≡ length pre → get_or (pre ++ s) (at + n) 0 ≡ get_or s n 0
behind pre s at n is = rw is (get_or-append-add pre s n 0)

-- one header is walked over
one-over : (pre rest content : List ℕ) (next units : ℕ) (p : Progress) → is_walked p.kind ≡ true → length content ≡ units * 8 + 6
    → p.at ≡ length pre → offset_of_fragment p.field ≡ 0
    → header_at (pre ++ (next ∷ units ∷ (content ++ rest))) p ≡ Ok (Some (moved p next ((units + 1) * 8)))
one-over pre rest content next units p walked sized is first =
    let s : List ℕ = pre ++ (next ∷ units ∷ (content ++ rest)) in
    let long : length s ≡ length pre + (2 + (length content + length rest)) = simp length-append (omega arith) in
    let number : get_or s (p.at + 0) 0 ≡ next = behind pre (next ∷ units ∷ (content ++ rest)) p.at 0 is in
    let same : get_or s p.at 0 ≡ next = rw (add-zero p.at) at number in
    let says : get_or s (p.at + 1) 0 ≡ units = behind pre (next ∷ units ∷ (content ++ rest)) p.at 1 is in
    sym (header-walked s p (is_walked p.kind) refl (Ok (moved p next ((units + 1) * 8))) walked
    (ap (λ (kind : ℕ). Ok (moved p kind ((units + 1) * 8))) (sym same) ∙ extension-whole s p first units (sym says) (omega arith) (omega arith)))

-- **headers 0, 43 and 60 are walked over**, from wherever a walk has come to that is behind no fragment offset but 0
pub over-extensions : (es : List Extension) (upper : ℕ) (pre rest : List ℕ) (p : Progress) → AllWhole es → p.kind ≡ first_of es upper
    → p.at ≡ length pre → offset_of_fragment p.field ≡ 0
    → (headers_from (pre ++ laid_out es upper rest) p).ending ≡ (headers_from (pre ++ laid_out es upper rest) (moved p upper (size_of_all es))).ending
over-extensions [] upper pre rest p all kind is first =
    let same : p ≡ moved p upper 0 = rw (← kind, add-zero p.at) refl in
    ap (λ (q : Progress). (headers_from (pre ++ rest) q).ending) same
over-extensions (e ∷ es) upper pre rest p all kind is first =
    let next = first_of es upper in
    let s : List ℕ = pre ++ (next ∷ e.units ∷ (e.content ++ laid_out es upper rest)) in
    let q : Progress = moved p next ((e.units + 1) * 8) in
    let front : List ℕ = pre ++ (next ∷ e.units ∷ e.content) in
    let cut : front ++ laid_out es upper rest ≡ s = simp append_assoc in
    let long : length front ≡ length pre + (2 + length e.content) = simp length-append (omega arith) in
    let step : header_at s p ≡ Ok (Some q) = one-over pre (laid_out es upper rest) e.content next e.units p (rw kind all.0.walked) all.0.sized is first in
    let on = ap (λ w. w.ending) (headers-on s p q step) in
    let rest-on = over-extensions es upper front rest q all.1 refl (omega (arith, all.0.sized)) first in
    on ∙ rw cut at rest-on ∙ ap (λ (at : ℕ). (headers_from s (record { kind = upper; at = at; fragmented = p.fragmented; field = p.field })).ending) (omega arith)

-- headers laid out before octets, and how long they are
pub laid-append : (es : List Extension) (upper : ℕ) (rest : List ℕ) → laid_out es upper rest ≡ laid_out es upper [] ++ rest
laid-append [] upper rest = refl
laid-append (e ∷ es) upper rest =
    rw (laid-append es upper rest) (ap (λ (t : List ℕ). first_of es upper ∷ e.units ∷ t) (sym (append_assoc e.content (laid_out es upper []) rest)))

pub laid-length : (es : List Extension) (upper : ℕ) → AllWhole es → length (laid_out es upper []) ≡ size_of_all es
laid-length [] upper all = refl
laid-length (e ∷ es) upper all =
    let rest = laid-length es upper all.1 in
    let both = length-append e.content (laid_out es upper []) in
    omega (arith, all.0.sized)

-- a fragment header: its offset, the two bits behind that, the M flag, a reserved octet and an identification
pub record Fragment : Type 0 where
  pub offset : ℕ
  pub between : ℕ
  pub more : ℕ
  pub reserved : ℕ
  pub identification : ℕ

-- its fields have no more bits than section 4.5 gives them
pub record Sized (f : Fragment) : Type 0 where
  pub offset : f.offset < 8192
  pub between : f.between < 4
  pub more : f.more < 2

-- its octets 2 and 3
abbrev pub field_of : Fragment → ℕ
field_of f = f.offset * 8 + f.between * 2 + f.more

-- the octets of a fragment header before what has the number `next`, and those that follow
abbrev pub fragment_octets : Fragment → ℕ → List ℕ → List ℕ
fragment_octets f next rest = next ∷ f.reserved ∷ (octets_of 2 (field_of f) ++ (octets_of 4 f.identification ++ rest))

module _ (f : Fragment) (sized : Sized f) where
  -- what was laid out is read back
  pub offset-back : offset_of_fragment (field_of f) ≡ f.offset
  offset-back = omega (arith, sized.between, sized.more)

  pub more-back : more_flag (field_of f) ≡ eqb f.more 1
  more-back =
      let bit : bit_and (field_of f) 1 ≡ f.more = and_mask (field_of f) 1 ∙ omega (arith, sized.more) in
      elim (dec_lt f.more 1) [
        | yes l ↦ let z : f.more ≡ 0 = omega arith in rw (bit, z)
        | no g ↦ let z : f.more ≡ 1 = omega (arith, sized.more) in rw (bit, z)
      ]

  -- where a walk has come to behind the header
  abbrev pub behind_fragment : Progress → ℕ → Progress
  behind_fragment p next = record { kind = next; at = p.at + 8; fragmented = true; field = field_of f }

  -- **the first header 44 is walked over**
  pub over-fragment : (pre rest : List ℕ) (next : ℕ) (p : Progress) → p.kind ≡ 44 → p.fragmented ≡ false → p.at ≡ length pre
      → header_at (pre ++ fragment_octets f next rest) p ≡ Ok (Some (behind_fragment p next))
  over-fragment pre rest next p kind none is =
      let t : List ℕ = fragment_octets f next rest in
      let s : List ℕ = pre ++ t in
      let long : length s ≡ length pre + (8 + length rest) = simp (length-append, length-octets_of) (omega arith) in
      let number : get_or s (p.at + 0) 0 ≡ next = behind pre t p.at 0 is in
      let same : get_or s p.at 0 ≡ next = rw (add-zero p.at) at number in
      let field : field_of f ≡ number_at 2 s (p.at + 2) =
      rw is
      (sym (number_behind 2 pre t 2 ∙ number-octets (next ∷ f.reserved ∷ []) 2 (field_of f) (octets_of 4 f.identification ++ rest) (omega (arith, sized.offset, sized.between, sized.more)))) in
      let walked : is_walked p.kind ≡ false = rw kind refl in
      sym (header-fragment s p (is_walked p.kind) refl (Ok (behind_fragment p next)) walked (rw (kind, none) refl)
      (ap (λ (k : ℕ). Ok (behind_fragment p k)) (sym same) ∙ fragment-whole s p (field_of f) field (omega arith) (omega arith)))

-- **any other header is the upper layer**, a second 44 among them, however many octets are behind it
pub upper-here : (s : List ℕ) (p : Progress) → is_walked p.kind ≡ false → is_first_fragment p ≡ false → (headers_from s p).ending ≡ ended true p
upper-here s p walked first = ap (λ w. w.ending) (headers-upper s p (sym (header-upper s p (is_walked p.kind) refl walked first)))

pub second-fragment : (p : Progress) → p.fragmented ≡ true → is_first_fragment p ≡ false
second-fragment p seen = rw seen (and-false (eqb p.kind 44))

-- **behind a fragment offset that is not 0 no header 0, 43 or 60 is found**
pub later-lost : (s : List ℕ) (p : Progress) → is_walked p.kind ≡ true → (offset_of_fragment p.field ≡ 0 → ⊥) → (headers_from s p).ending ≡ ended false p
later-lost s p walked later =
    ap (λ w. w.ending) (headers-lost s p p (sym (header-walked s p (is_walked p.kind) refl (Err p) walked (extension-later s p later))))

-- **nor is one of which the last octet is missing**
pub cut-lost : (s : List ℕ) (p : Progress) → is_walked p.kind ≡ true → offset_of_fragment p.field ≡ 0 → length s < p.at + extension_size s p.at
    → (headers_from s p).ending ≡ ended false p
unfolding extension_at
cut-lost s p walked first short =
    let lost : Err p ≡ extension_at s p = rw (first, lt-ltb (length s) (p.at + extension_size s p.at) short) in
    ap (λ w. w.ending) (headers-lost s p p (sym (header-walked s p (is_walked p.kind) refl (Err p) walked lost)))

pub cut-fragment-lost : (s : List ℕ) (p : Progress) → p.kind ≡ 44 → p.fragmented ≡ false → length s < p.at + 8 → (headers_from s p).ending ≡ ended false p
unfolding fragment_at
cut-fragment-lost s p kind none short =
    let lost : Err p ≡ fragment_at s p = rw (lt-ltb (length s) (p.at + 8) short) in
    ap (λ w. w.ending) (headers-lost s p p (sym (header-fragment s p (is_walked p.kind) refl (Err p) (rw kind refl) (rw (kind, none) refl) lost)))

-- a packet's own header, and how its octet 6 tells what stands behind it
module _ (own rest : List ℕ) (forty : length own ≡ 40) where
  starts : (kind : ℕ) (t : List ℕ) → get_or own 6 0 ≡ kind → upper_layer (own ++ t) ≡ (headers_from (own ++ t) (record { kind = kind; at = 40; fragmented = false; field = 0 })).ending
  starts kind t is = upper-start (own ++ t) kind (sym (get_or-append own t 0 6 (omega arith) ∙ is))

  -- **a packet without a fragment header**: its upper layer is what stands behind its headers 0, 43 and 60
  pub whole-packet : (es : List Extension) (upper : ℕ) → AllWhole es → get_or own 6 0 ≡ first_of es upper → is_walked upper ≡ false → (upper ≡ 44 → ⊥)
      → upper_layer (own ++ laid_out es upper rest) ≡ ended true (record { kind = upper; at = 40 + size_of_all es; fragmented = false; field = 0 })
  whole-packet es upper all is walked other =
      starts (first_of es upper) (laid_out es upper rest) is
      ∙ over-extensions es upper own rest (record { kind = first_of es upper; at = 40; fragmented = false; field = 0 }) all refl (sym forty) refl
      ∙ upper-here (own ++ laid_out es upper rest) (record { kind = upper; at = 40 + size_of_all es; fragmented = false; field = 0 }) walked
      (rw (ne_eqb upper 44 other))

  -- **a packet with a fragment header** behind headers `es` and before headers `fs`
  module _ (es fs : List Extension) (upper : ℕ) (f : Fragment) (all : AllWhole es) (sized : Sized f) (is : get_or own 6 0 ≡ first_of es 44) where
    abbrev inner : List ℕ
    inner = fragment_octets f (first_of fs upper) (laid_out fs upper rest)

    abbrev pub fragmented_octets : List ℕ
    fragmented_octets = own ++ laid_out es 44 inner

    -- where the walk has come to behind the fragment header
    abbrev pub behind_it : Progress
    behind_it = record { kind = first_of fs upper; at = 40 + size_of_all es + 8; fragmented = true; field = field_of f }

    before-it : fragmented_octets ≡ (own ++ laid_out es 44 []) ++ inner
    before-it = rw (laid-append es 44 inner) (sym (append_assoc own (laid_out es 44 []) inner))

    to-fragment : upper_layer fragmented_octets ≡ (headers_from fragmented_octets behind_it).ending
    to-fragment =
        let at : Progress = record { kind = 44; at = 40 + size_of_all es; fragmented = false; field = 0 } in
        let long : length (own ++ laid_out es 44 []) ≡ 40 + size_of_all es = length-append own (laid_out es 44 []) ∙ rw (forty, laid-length es 44 all) refl in
        let step = over-fragment f sized (own ++ laid_out es 44 []) (laid_out fs upper rest) (first_of fs upper) at refl refl (sym long) in
        starts (first_of es 44) (laid_out es 44 inner) is
        ∙ over-extensions es 44 own inner (record { kind = first_of es 44; at = 40; fragmented = false; field = 0 }) all refl (sym forty) refl
        ∙ ap (λ w. w.ending) (headers-on fragmented_octets at behind_it (rw (← before-it) at step))

    -- in a first or whole fragment the upper layer is what stands behind all of them
    pub first-packet : AllWhole fs → f.offset ≡ 0 → is_walked upper ≡ false
        → upper_layer fragmented_octets ≡ ended true (record { kind = upper; at = 40 + size_of_all es + 8 + size_of_all fs; fragmented = true; field = field_of f })
    unfolding octets_of
    first-packet others first walked =
        let front : List ℕ = (own ++ laid_out es 44 []) ++ fragment_octets f (first_of fs upper) [] in
        let long : length front ≡ 40 + size_of_all es + 8 = length-append (own ++ laid_out es 44 []) (fragment_octets f (first_of fs upper) []) ∙ rw (length-append own (laid_out es 44 []), forty, laid-length es 44 all) refl in
        let cut : front ++ laid_out fs upper rest ≡ fragmented_octets = append_assoc (own ++ laid_out es 44 []) (fragment_octets f (first_of fs upper) []) (laid_out fs upper rest) ∙ sym before-it in
        let over = over-extensions fs upper front rest behind_it others refl (sym long) (offset-back f sized ∙ first) in
        to-fragment ∙ rw cut at over
        ∙ upper-here fragmented_octets (record { kind = upper; at = 40 + size_of_all es + 8 + size_of_all fs; fragmented = true; field = field_of f }) walked
        (second-fragment (record { kind = upper; at = 40 + size_of_all es + 8 + size_of_all fs; fragmented = true; field = field_of f }) refl)

    -- in a later one it is what the fragment header tells, where that is no header to walk over
    pub later-packet : is_walked (first_of fs upper) ≡ false → upper_layer fragmented_octets ≡ ended true behind_it
    later-packet walked = to-fragment ∙ upper-here fragmented_octets behind_it walked (second-fragment behind_it refl)

    -- and where it is one, nothing is found, and the fragment header's field stands
    pub later-packet-lost : (f.offset ≡ 0 → ⊥) → is_walked (first_of fs upper) ≡ true → upper_layer fragmented_octets ≡ ended false behind_it
    later-packet-lost later walked =
        to-fragment ∙ later-lost fragmented_octets behind_it walked (λ e. later (sym (offset-back f sized) ∙ e))
