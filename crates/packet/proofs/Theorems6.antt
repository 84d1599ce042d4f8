-- What a reader expects of an IPv6 packet's fields, by how the walk over its headers ends: a walk that finds no upper layer hides the types 3
-- to 9, and behind a fragment offset that is not 0 nothing of the types 4 to 9 is shown; **what a later fragment shows, by its fragment
-- header's octets**. Assumes nothing.
use mathlib.Core.Path.{◌≡◌, sym, ap, subst, ◌∙◌}
use mathlib.Core.Bool.{true, false, not, cond, and-false}
use mathlib.Core.List.{List, ◌++◌}
use Prim.Native.Nat.{ℕ, ◌+◌, ◌<◌, ◌≤◌}
use native.Mathlib.Omega.{arith}
use lib.Dec.{eqb}
use lib.ListN.{length, get_or, drop, take-append-drop, get_or-append}
use borrow.Author.Tests.{ne_eqb}
use Rattle.std.proofs.Common.{Some, None}
use Rattle.std.specs.Result.{is_ok}
use Rattle.octets.specs.Number.{number_at}
use Rattle.octets.proofs.Cases.{by-test}
use Rattle.octets.proofs.NumberLaws.{number-before}
use Rattle.rule.specs.declared.Family.{Family}
use Rattle.rule.specs.Family.{ipv6}
use Rattle.extension.specs.Extension.{is_walked, offset_of_fragment, more_flag, ended, reached, upper_layer, past_fragment}
use Rattle.packet.specs.declared.Packet.{Packet}
use Rattle.packet.specs.Header6.{packet_length, counted, upper_octets}
use Rattle.packet.specs.Transport.{hidden}
use Rattle.packet.specs.Later.{LaterFragment, ShownLater}
use Rattle.packet.specs.Packet.{fragment_data, ipv6_fields, fields_of, packet_of}
use Rattle.extension.proofs.ExtensionLaws.{unfragmented-zero, reached-ended, found-ended}
use Rattle.extension.proofs.FragmentLaws.{fragment-within, fragment-ends, came-over-later}
use Rattle.packet.proofs.Theorems.{no-octets, usable-fields}

module _ (family : Family) (s : List ℕ) where
  -- 2026-04: a walk that "finds none, so types 3 to 9 don't match"
  pub lost-hidden : is_ok (upper_layer (counted s)) ≡ false → ((ipv6_fields family s).protocol ≡ None) × ((ipv6_fields family s).transport ≡ hidden)
  unfolding ipv6_fields upper_octets
  lost-hidden lost = (rw lost, rw lost (no-octets family (reached (upper_layer (counted s))).kind))

  -- a walk that ends at an upper layer shows its number
  pub found-shown : is_ok (upper_layer (counted s)) ≡ true → (ipv6_fields family s).protocol ≡ Some (reached (upper_layer (counted s))).kind
  unfolding ipv6_fields
  found-shown found = rw found

  -- behind a fragment offset that is not 0 no transport header is shown
  pub later-six-hidden : (offset_of_fragment (reached (upper_layer (counted s))).field ≡ 0 → ⊥) → (ipv6_fields family s).transport ≡ hidden
  unfolding ipv6_fields upper_octets
  later-six-hidden later =
      rw (ne_eqb (offset_of_fragment (reached (upper_layer (counted s))).field) 0 later, and-false (is_ok (upper_layer (counted s))))
      (no-octets family (reached (upper_layer (counted s))).kind)

  -- "Without a whole header 44" that the walk goes over "fragment data is 0"
  pub unfragmented-none : (reached (upper_layer (counted s))).fragmented ≡ false → (ipv6_fields family s).fragment ≡ 0
  unfolding ipv6_fields fragment_data
  unfragmented-none none = rw (unfragmented-zero (counted s) none)

-- the fragment data behind an offset that is not 0
later-data : (field : ℕ) → (offset_of_fragment field ≡ 0 → ⊥) → fragment_data false (eqb (offset_of_fragment field) 0) (more_flag field) ≡ cond (more_flag field) 0x02 0x0a
unfolding fragment_data
later-data field later = rw (ne_eqb (offset_of_fragment field) 0 later) (by-test (more_flag field) (λ t. rw t) (λ t. rw t))

-- what stands in the octets that count stands in the packet's octets
module _ (s : List ℕ) where
  whole : s ≡ counted s ++ drop (packet_length s) s
  whole = sym (take-append-drop (packet_length s) s)

  octet-counts : (at : ℕ) → at < length (counted s) → get_or (counted s) at 0 ≡ get_or s at 0
  octet-counts at h = sym (ap (λ (l : List ℕ). get_or l at 0) whole ∙ get_or-append (counted s) (drop (packet_length s) s) 0 at h)

  number_counts : (n at : ℕ) → at + n ≤ length (counted s) → number_at n (counted s) at ≡ number_at n s at
  number_counts n at h = sym (ap (λ (l : List ℕ). number_at n l at) whole ∙ number-before n (counted s) (drop (packet_length s) s) at h)

module _ (s : List ℕ) (place : ℕ) (f : LaterFragment s place) where
  within : place + 8 ≤ length (counted s)
  within = fragment-within (counted s) place f.walked

  -- the walk ends behind the header, as its octets in the packet say
  ends : upper_layer (counted s) ≡ ended (not (is_walked (get_or s place 0))) (past_fragment s place)
  ends =
      let next = octet-counts s place (omega (arith, within)) in
      let field = number_counts s 2 (place + 2) (omega (arith, within)) in
      fragment-ends (counted s) place f.walked (λ z. f.later (ap offset_of_fragment (sym field) ∙ z)) ∙ rw (next, field)

  come : reached (ended (not (is_walked (get_or s place 0))) (past_fragment s place)) ≡ past_fragment s place
  come = reached-ended (not (is_walked (get_or s place 0))) (past_fragment s place)

  -- **one law for later fragments of IPv6**: whatever stands before the fragment header and behind it, this is what such a packet shows
  pub later-six : (family : Family) → ShownLater s place (ipv6_fields family s)
  unfolding ipv6_fields
  later-six family =
      record {
        transport = later-six-hidden family s (λ z. f.later (rw (ends, come) at z));
        fragment = rw (ends, come) (later-data (number_at 2 s (place + 2)) f.later);
        protocol = rw (ends, come, found-ended (not (is_walked (get_or s place 0))) (past_fragment s place));
      }

  -- the same of a packet that is read
  pub later-usable : (packet : Packet) → packet_of ipv6 s ≡ Some packet → ShownLater s place packet
  unfolding fields_of
  later-usable packet seen = subst (ShownLater s place) (sym (usable-fields ipv6 s packet seen)) (later-six ipv6)

-- **and a packet whose walk ends behind a fragment offset that is not 0 is one**
pub later-place : (s : List ℕ) → (offset_of_fragment (reached (upper_layer (counted s))).field ≡ 0 → ⊥) → (place : ℕ) × LaterFragment s place
later-place s later =
    let came = came-over-later (counted s) later in
    let field = number_counts s 2 (came.place + 2) (omega (arith, fragment-within (counted s) came.place came.walked)) in
    (came.place, record { walked = came.walked; later = λ z. came.later (ap offset_of_fragment field ∙ z) })
