-- Laws of communities: the kind of each type, what a community of each kind adds, and what one community more adds.
use Prim.Native.Nat.{ℕ, zero, suc, ◌+◌, ◌/◌, ◌^◌, ◌<◌}
use mathlib.Core.Path.{◌≡◌, refl, ap, ◌∙◌}
use mathlib.Core.Bool.{Bool, true, false, cond, ◌||◌}
use mathlib.Core.List.{List, ◌∷◌, ◌++◌}
use native.Mathlib.Nat.{add_assoc}
use native.Mathlib.Omega.{arith}
use borrow.Author.Tests.{ne_eqb}
use lib.Bits.{bit_and, and_mask}
use lib.ListN.{length, length-append}
use Rattle.std.proofs.Common.{Option, Some, None, option_and_then}
use Rattle.octets.specs.Bit.{has}
use Rattle.octets.specs.Number.{number_at}
use Rattle.octets.proofs.NumberLaws.{number_behind, number-before}
use Rattle.rate.specs.declared.Rate.{Rate}
use Rattle.rate.specs.Rate.{note_number}
use Rattle.action.specs.declared.Actions.{Actions}
use Rattle.action.specs.declared.Given.{Given}
use Rattle.action.specs.declared.Kind.{Kind}
use Rattle.action.specs.declared.Kind.TheVariants.{ByteRate, PacketRate, TrafficAction, Redirect, Marking, Other}
use Rattle.action.specs.declared.Limit.{Limit}
use Rattle.action.specs.Given.{given, first_of}
use Rattle.action.specs.Limit.{limit, smaller_of}
use Rattle.action.specs.Actions.{no_actions, is_redirect, rate_in, communities_at, communities_of, wrong_length, actions_of}
use Rattle.action.specs.Reading.{kind_of, with_byte_rate, with_packet_rate, with_flags, with_marking, with_redirect, with_rate, with_kind, with_community, with_communities}
use Rattle.action.proofs.ReadingLaws.{by-reading}

-- A type that is none of the four single ones is a redirect or is skipped.
pub last-kind : (type : ℕ) (r : Bool) → (type ≡ 0x8006 → ⊥) → (type ≡ 0x800c → ⊥) → (type ≡ 0x8007 → ⊥) → (type ≡ 0x8009 → ⊥)
    → is_redirect type ≡ r → cond r Redirect Other ≡ kind_of type
unfolding kind_of
last-kind type r b p t m h =
    rw (ne_eqb type 0x8006 b, ne_eqb type 0x800c p, ne_eqb type 0x8007 t, ne_eqb type 0x8009 m, h)

-- What a community c, read as x, adds to the actions a, by its kind: they become b, or are refused.
module _ (a : Actions) (c x : ℕ) (k : Kind) (here : x ≡ c) (kind : k ≡ kind_of (x / 2 ^ 48)) where
  known : (want : Kind) (r : Option Actions) → k ≡ want → with_kind want a x ≡ r → with_community a c ≡ r
  unfolding with_community
  known want r h e = rw (← here, ← kind, h) e

  module _ (r : Option Rate) (read : r ≡ rate_in x) (is : r ≡ None) where
    pub refuses-byte-rate : k ≡ ByteRate → with_community a c ≡ None
    unfolding with_kind with_rate
    refuses-byte-rate h = known ByteRate _ h (rw (← read, is))

    pub refuses-packet-rate : k ≡ PacketRate → with_community a c ≡ None
    unfolding with_kind with_rate
    refuses-packet-rate h = known PacketRate _ h (rw (← read, is))

  module _ (b : Actions) where
    pub takes-byte-rate : (r : Option Rate) (rate : Rate) (l s : Limit) → k ≡ ByteRate → r ≡ rate_in x → r ≡ Some rate → l ≡ limit rate.number (note_number rate.note)
        → s ≡ smaller_of a.bytes l → b ≡ with_byte_rate a s → with_community a c ≡ Some b
    unfolding with_kind with_rate
    takes-byte-rate r rate l s h read is l-is s-is b-is = known ByteRate _ h (rw (← read, is, b-is, s-is, l-is))

    pub takes-packet-rate : (r : Option Rate) (rate : Rate) (l s : Limit) → k ≡ PacketRate → r ≡ rate_in x → r ≡ Some rate → l ≡ limit rate.number (note_number rate.note)
        → s ≡ smaller_of a.packets l → b ≡ with_packet_rate a s → with_community a c ≡ Some b
    unfolding with_kind with_rate
    takes-packet-rate r rate l s h read is l-is s-is b-is = known PacketRate _ h (rw (← read, is, b-is, s-is, l-is))

    pub takes-flags : k ≡ TrafficAction → b ≡ with_flags a (a.sample || has x 0x02) (a.onward || has x 0x01) → with_community a c ≡ Some b
    unfolding with_kind
    takes-flags h b-is = known TrafficAction _ h (rw b-is)

    pub takes-marking : (g s : Given) → k ≡ Marking → g ≡ given (bit_and x 0x3f) → s ≡ first_of a.marking g → b ≡ with_marking a s
        → with_community a c ≡ Some b
    unfolding with_kind
    takes-marking g s h g-is s-is b-is = known Marking _ h (rw (b-is, s-is, g-is, and_mask x 6))

    pub takes-redirect : (g s : Given) → k ≡ Redirect → g ≡ given x → s ≡ first_of a.redirect g → b ≡ with_redirect a s
        → with_community a c ≡ Some b
    unfolding with_kind
    takes-redirect g s h g-is s-is b-is = known Redirect _ h (rw (b-is, s-is, g-is))

    pub skipped : k ≡ Other → b ≡ a → with_community a c ≡ Some b
    unfolding with_kind
    skipped h b-is = known Other _ h (rw b-is)

-- A wrong length is refused.
pub refused : (s : List ℕ) → wrong_length (length s) ≡ true → None ≡ actions_of s
refused s h = rw (by-reading s, h)

-- The communities behind the place where some octets end are those of the octets behind.
communities-behind : (n : ℕ) (p s : List ℕ) (at : ℕ) → communities_at n (p ++ s) (length p + at) ≡ communities_at n s at
unfolding communities_at
communities-behind zero p s at = refl
communities-behind (suc n) p s at = rw (number_behind 8 p s at, add_assoc, communities-behind n p s (at + 8))

-- Octets with eight at their front hold the community in these, and those in the rest.
communities-next : (s eight rest : List ℕ) → s ≡ eight ++ rest → length eight ≡ 8 → communities_of s ≡ number_at 8 eight 0 ∷ communities_of rest
unfolding communities_at
communities-next s eight rest e h =
    let size : length s ≡ 8 + length rest = ap length e ∙ length-append eight rest ∙ ap (λ n. n + length rest) h in
    let one_more : length s / 8 ≡ suc (length rest / 8) = omega arith in
    rw (one_more, e, number-before 8 eight rest 0 (omega arith), ← communities-behind (length rest / 8) eight rest 0, h)

-- What holds before each community: the actions so far and the communities in the rest give the whole answer.
abbrev pub Reached : List ℕ → Actions → List ℕ → Type 0
Reached s a rest = with_communities a (communities_of rest) ≡ actions_of s

-- Before the first community.
pub start : (s rest : List ℕ) (a : Actions) → rest ≡ s → wrong_length (length s) ≡ false → a ≡ no_actions → Reached s a rest
start s rest a all h e = rw (all, by-reading s, h, e)

module _ (s : List ℕ) (a : Actions) (more : List ℕ) (reached : Reached s a more) where
  -- After the last community.
  pub finished : length more < 8 → Some a ≡ actions_of s
  unfolding with_communities communities_at
  finished h = let none : length more / 8 ≡ 0 = omega arith in rw none at reached

  module _ (eight rest : List ℕ) (cut : more ≡ eight ++ rest) (whole : length eight ≡ 8) where
    first-of-more : option_and_then (λ b. with_communities b (communities_of rest)) (with_community a (number_at 8 eight 0)) ≡ actions_of s
    unfolding with_communities
    first-of-more = rw (communities-next more eight rest cut whole) at reached

    -- One community more.
    pub next : (b : Actions) → with_community a (number_at 8 eight 0) ≡ Some b → Reached s b rest
    next b h = rw h at first-of-more

    -- A community that is refused.
    pub stopped : with_community a (number_at 8 eight 0) ≡ None → None ≡ actions_of s
    stopped h = rw h at first-of-more
