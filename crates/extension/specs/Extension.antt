-- The headers that stand between the header of an IPv6 packet and its upper layer (RFC 8200 section 4), and the walk over them. A header is
-- told by a number, which stands in the header before it: in the packet's own header in octet 6, in any other in the first octet ("Next
-- Header"). 2026-04: "This house walks headers 0, 43, 60 and the first 44; any other is the upper layer." The octets are those of the packet
-- that count, from its first one on.
use Rattle.std.specs.Prelude.{ℕ, ◌+◌, ◌*◌, ◌/◌, Bool, true, false, cond, not, ◌&&◌, ◌||◌, List, ltb, eqb, length, get_or, Option, Some, None, Result, Ok, Err}
use Rattle.octets.specs.Bit.{has}
use Rattle.octets.specs.Number.{number_at}
use Rattle.octets.specs.Walk.{Step, more, stop, Walk, through}
use Rattle.extension.specs.declared.Progress.{Progress}

-- RFC 8200 sections 4.3, 4.4 and 4.6: 0 is Hop-by-Hop Options, 43 Routing and 60 Destination Options.
abbrev pub is_walked : ℕ → Bool
is_walked kind = eqb kind 0 || eqb kind 43 || eqb kind 60

-- Section 4.5: 44 is Fragment; 2026-04: "the first 44".
abbrev pub is_first_fragment : Progress → Bool
is_first_fragment p = eqb p.kind 44 && not p.fragmented

-- Section 4.5, "Fragment Offset": the top 13 bits of a fragment header's octets 2 and 3, here `field`.
abbrev pub offset_of_fragment : ℕ → ℕ
offset_of_fragment field = field / 8

-- Section 4.5, "M flag": their lowest bit; the two bits between are ignored.
abbrev pub more_flag : ℕ → Bool
more_flag field = has field 1

-- Sections 4.3, 4.4 and 4.6, "Hdr Ext Len": the second octet is the header's length "in 8-octet units, not including the first 8 octets".
abbrev pub extension_size : List ℕ → ℕ → ℕ
extension_size s at = (get_or s (at + 1) 0 + 1) * 8

-- A header 0, 43 or 60. 2026-04: "A walk past the bytes, or to 0, 43 or 60 behind a fragment offset not 0, finds none".
unfoldable pub extension_at : List ℕ → Progress → Result Progress Progress
extension_at s p =
    let behind = p.at + extension_size s p.at in
    cond (not (eqb (offset_of_fragment p.field) 0) || ltb (length s) behind) (Err p)
    (Ok (record { kind = get_or s p.at 0; at = behind; fragmented = p.fragmented; field = p.field }))

-- The first header 44, which has 8 octets (section 4.5).
unfoldable pub fragment_at : List ℕ → Progress → Result Progress Progress
fragment_at s p =
    cond (ltb (length s) (p.at + 8)) (Err p)
    (Ok (record { kind = get_or s p.at 0; at = p.at + 8; fragmented = true; field = number_at 2 s (p.at + 2) }))

-- A header that is walked over is no upper layer, and a walk that is lost at one stays lost.
abbrev pub over : Result Progress Progress → Result (Option Progress) Progress
over (Ok behind) = Ok (Some behind)
over (Err lost) = Err lost

-- What stands where a walk has come to: a header to walk over and what is behind it, the upper layer, or nothing that is found.
unfoldable pub header_at : List ℕ → Progress → Result (Option Progress) Progress
header_at s p = cond (is_walked p.kind) (over (extension_at s p)) (cond (is_first_fragment p) (over (fragment_at s p)) (Ok None))

-- How a walk ends: at an upper layer or not, and how far it had come.
abbrev pub ended : Bool → Progress → Result Progress Progress
ended found p = cond found (Ok p) (Err p)

-- How far a walk had come that ended, at an upper layer or not.
abbrev pub reached : Result Progress Progress → Progress
reached (Ok p) = p
reached (Err p) = p

-- A step of the walk.
abbrev pub header_step : Progress → Result (Option Progress) Progress → Step Progress Progress (Result Progress Progress)
header_step p (Ok (Some behind)) = more p behind
header_step p (Ok None) = stop (Ok p)
header_step p (Err lost) = stop (Err lost)

-- RFC 8200 section 3: behind the packet's own header of 40 octets, whose octet 6 is its "Next Header".
abbrev pub at_first : List ℕ → Progress
at_first s = record { kind = get_or s 6 0; at = 40; fragmented = false; field = 0 }

-- The headers walked over from where a walk has come to, and how it ends. Each header takes octets, so there are no more of them than octets
-- (`another-within`, and for the whole walk `walk_any`, in proofs/ExtensionLaws.antt).
unfoldable pub headers_from : List ℕ → Progress → Walk Progress (Result Progress Progress)
headers_from s p = through s (Err (at_first s)) (λ q. header_step q (header_at s q)) p

-- RFC 8956 section 3.3: "the first Next Header value octet in IPv6 packets that is not an extension header", and where its header begins; or
-- that none is found.
unfoldable pub upper_layer : List ℕ → Result Progress Progress
upper_layer s = (headers_from s (at_first s)).ending

-- The headers that are walked over behind a packet's own, each as where the walk had come to before it.
abbrev pub walked_over : List ℕ → List Progress
walked_over s = (headers_from s (at_first s)).items

-- Where a walk has come to before the first fragment header, by the place where that begins.
abbrev pub before_fragment : ℕ → Progress
before_fragment place = record { kind = 44; at = place; fragmented = false; field = 0 }

-- And behind it, by its octets.
abbrev pub past_fragment : List ℕ → ℕ → Progress
past_fragment s place = record { kind = get_or s place 0; at = place + 8; fragmented = true; field = number_at 2 s (place + 2) }
