-- Every actions that could be are those of some communities (`possible-read`): at most five communities say them, and their octets are
-- read back as these communities.
use Prim.Native.Nat.{ℕ, zero, suc, ◌+◌, ◌*◌, ◌/◌, ◌%◌, ◌^◌, ◌<◌, ◌≤◌}
use mathlib.Core.Path.{◌≡◌, refl, ◌∙◌}
use mathlib.Core.Bool.{Bool, true, false}
use mathlib.Core.List.{List, [], ◌∷◌, ◌++◌}
use mathlib.Core.Logic.{◌⊎◌, inl, inr}
use native.Mathlib.Nat.{add_assoc}
use native.Mathlib.Omega.{arith}
use borrow.Author.Tests.{eqb-true, eq-eqb, ltb-true, le-ltb}
use lib.Dec.{eqb, lit<, lit≤}
use lib.ListN.{length, length-append}
use lib.Pow.{high}
use Rattle.std.proofs.Common.{Some}
use Rattle.octets.specs.Number.{octets_of}
use Rattle.octets.proofs.Cases.{by-test}
use Rattle.octets.proofs.Facts.{Octets, octets-append}
use Rattle.octets.proofs.NumberLaws.{number_behind, length-octets_of, octets-octets_of, number-octets}
use Rattle.rate.proofs.RatesGiven.{sound}
use Rattle.action.specs.declared.Actions.{Actions}
use Rattle.action.specs.declared.Given.{Given}
use Rattle.action.specs.declared.Kind.{Kind}
use Rattle.action.specs.declared.Kind.TheVariants.{ByteRate, PacketRate, TrafficAction, Redirect, Marking}
use Rattle.action.specs.declared.Limit.{Limit}
use Rattle.action.specs.Given.{absent, given, first_of}
use Rattle.action.specs.Limit.{no_limit, limit, smaller_of, could_be_limit}
use Rattle.action.specs.Actions.{no_actions, is_redirect, rate_in, wrong_length, communities_at, actions_of}
use Rattle.action.specs.Possible.{could_be}
use Rattle.action.specs.Reading.{kind_of, with_byte_rate, with_packet_rate, with_flags, with_marking, with_redirect, with_rate, with_kind, with_community, with_communities}
use Rattle.action.proofs.GivenLaws.{Fine, by-fine}
use Rattle.action.proofs.LimitLaws.{smaller_before, by-limit}
use Rattle.action.proofs.ReadingLaws.{by-reading}
use Rattle.action.proofs.PossibleLaws.{Could, could, six_bits, redirect_type}

communities-past : (n : ℕ) (s t : List ℕ) (at : ℕ) → communities_at n (s ++ t) (length s + at) ≡ communities_at n t at
unfolding communities_at
communities-past zero s t at = refl
communities-past (suc n) s t at = rw (number_behind 8 s t at, add_assoc, communities-past n s t (at + 8))

-- Communities as octets.
written : List ℕ → List ℕ
written [] = []
written (c ∷ cs) = octets_of 8 c ++ written cs

-- Every community fits eight octets.
abbrev Fit : List ℕ → Type 0
Fit [] = Unit {0}
Fit (c ∷ cs) = (c < 2 ^ 64) × Fit cs

length-written : (cs : List ℕ) → length (written cs) ≡ 8 * length cs
unfolding written
length-written [] = refl
length-written (c ∷ cs) = rw (length-append, length-octets_of 8 c, length-written cs) (omega arith)

written-octets : (cs : List ℕ) → Octets (written cs)
unfolding written
written-octets [] = λ i. lit< tt
written-octets (c ∷ cs) = octets-append (octets_of 8 c) (written cs) (octets-octets_of 8 c) (written-octets cs)

communities-written : (cs : List ℕ) → Fit cs → communities_at (length cs) (written cs) 0 ≡ cs
unfolding written communities_at
communities-written [] h = refl
communities-written (c ∷ cs) h =
    let rest = rw (length-octets_of 8 c) at (communities-past (length cs) (octets_of 8 c) (written cs) 0) in
    rw (number-octets [] 8 c (written cs) h.0, rest, communities-written cs h.1)

-- At most n communities that lead from some actions to others.
record Says (n : ℕ) (from to : Actions) : Type 0 where
  communities : List ℕ
  fit : Fit communities
  few : length communities ≤ n
  reads : with_communities from communities ≡ Some to

say-nothing : (a : Actions) → Says 0 a a
unfolding with_communities
say-nothing a = record { communities = []; fit = tt; few = lit≤ tt; reads = refl }

say-no-more : (n : ℕ) (a z : Actions) → Says n a z → Says (suc n) a z
say-no-more n a z s = record { communities = s.communities; fit = s.fit; few = (let f = s.few in omega arith); reads = s.reads }

-- A community that turns some actions into others.
record Adds (a b : Actions) : Type 0 where
  community : ℕ
  fits : community < 2 ^ 64
  adds : with_community a community ≡ Some b

say : (n : ℕ) (a b z : Actions) → Adds a b → Says n b z → Says (suc n) a z
unfolding with_communities
say n a b z c s =
    record {
      communities = c.community ∷ s.communities;
      fit = (c.fits, s.fit);
      few = (let f = s.few in omega arith);
      reads = rw c.adds s.reads;
    }

-- A field is added by one community, or is missing.
abbrev Said : {T : Type 0} → (T → Actions) → T → T → Type 0
Said change none field = Adds (change none) (change field) ⊎ (field ≡ none)

-- So it is said by one community or by none.
say-field : {T : Type 0} (n : ℕ) (change : T → Actions) (none field : T) (z : Actions) → Said change none field → Says n (change field) z
    → Says (suc n) (change none) z
say-field n change none field z (inl adds) s = say n (change none) (change field) z adds s
say-field n change none field z (inr gone) s = say-no-more n (change none) z (rw gone at s)

-- A community of a type, with what it carries.
adds-kind : (kind : Kind) (type low : ℕ) (a b : Actions) → type < 2 ^ 16 → low < 2 ^ 48 → kind_of type ≡ kind
    → with_kind kind a (type * 2 ^ 48 + low) ≡ Some b → Adds a b
unfolding with_community
adds-kind kind type low a b p q h k =
    record { community = type * 2 ^ 48 + low; fits = omega arith; adds = rw (high type 48 {lo = low} q, h) k }

-- A limit that could be, of either kind.
said-limit : (kind : Kind) (type : ℕ) (change : Limit → Actions) → type < 2 ^ 16 → kind_of type ≡ kind
    → ((c : ℕ) → with_kind kind (change no_limit) c ≡ with_rate (λ l. change (smaller_of no_limit l)) (rate_in c))
    → (l : Limit) → could_be_limit l ≡ true → Said change no_limit l
unfolding with_rate
said-limit kind type change p h same =
    by-limit (Said change no_limit)
    (λ number note g.
    let s = sound number note g in
    let single = s.2 in
    let below = s.3 in
    let last : (type * 2 ^ 48 + single) % 2 ^ 32 ≡ single = omega arith in
    inl
    (adds-kind kind type single (change no_limit) (change (limit number note)) p (omega arith) h
    (same (type * 2 ^ 48 + single) ∙ rw (last, s.4, s.1, smaller_before (limit number note)))))
    (inr refl)

said-marking : (a : Actions) (g : Given) → Fine six_bits g → Said (with_marking a) absent g
unfolding with_kind kind_of first_of
said-marking a =
    by-fine six_bits (Said (with_marking a) absent)
    (λ m h.
    let below = ltb-true m (2 ^ 6) h in
    let last : (0x8009 * 2 ^ 48 + m) % 2 ^ 6 ≡ m = omega arith in
    inl (adds-kind Marking 0x8009 m (with_marking a absent) (with_marking a (given m)) (lit< tt) (omega arith) refl (rw last)))
    (inr refl)

-- S and T are said by one community.
adds_flags : (a : Actions) (s t : Bool) → Adds (with_flags a false false) (with_flags a s t)
unfolding with_kind kind_of
adds_flags a false false = adds-kind TrafficAction 0x8007 0 _ _ (lit< tt) (lit< tt) refl refl
adds_flags a false true = adds-kind TrafficAction 0x8007 1 _ _ (lit< tt) (lit< tt) refl refl
adds_flags a true false = adds-kind TrafficAction 0x8007 2 _ _ (lit< tt) (lit< tt) refl refl
adds_flags a true true = adds-kind TrafficAction 0x8007 3 _ _ (lit< tt) (lit< tt) refl refl

redirect-number : (type : ℕ) → is_redirect type ≡ true → (type < 2 ^ 16) × (kind_of type ≡ Redirect)
unfolding kind_of
redirect-number type h =
    by-test (eqb type 0x8008) (λ e. rw (eqb-true type 0x8008 e) (lit< tt, refl))
    (λ n. by-test (eqb type 0x8108) (λ e. rw (eqb-true type 0x8108 e) (lit< tt, refl))
    (λ m. rw (eqb-true type 0x8208 (rw (n, m) at h)) (lit< tt, refl)))

said-redirect : (a : Actions) (g : Given) → Fine redirect_type g → Said (with_redirect a) absent g
unfolding with_community with_kind first_of
said-redirect a =
    by-fine redirect_type (Said (with_redirect a) absent)
    (λ m h.
    let r = redirect-number (m / 2 ^ 48) h in
    let below = r.0 in
    inl (record { community = m; fits = omega arith; adds = rw r.1 }))
    (inr refl)

-- Actions that could be are said by at most five communities.
says : (a : Actions) → Could a → Says 5 no_actions a
unfolding with_kind kind_of
says a c =
    let a₁ = with_byte_rate no_actions a.bytes in
    let a₂ = with_packet_rate a₁ a.packets in
    let a₃ = with_flags a₂ a.sample a.onward in
    let a₄ = with_marking a₃ a.marking in
    say-field 4 (with_byte_rate no_actions) no_limit a.bytes a
    (said-limit ByteRate 0x8006 (with_byte_rate no_actions) (lit< tt) refl (λ n. refl) a.bytes c.bytes)
    (say-field 3 (with_packet_rate a₁) no_limit a.packets a
    (said-limit PacketRate 0x800c (with_packet_rate a₁) (lit< tt) refl (λ n. refl) a.packets c.packets)
    (say 2 a₂ a₃ a (adds_flags a₂ a.sample a.onward)
    (say-field 1 (with_marking a₃) absent a.marking a (said-marking a₃ a.marking c.marks)
    (say-field 0 (with_redirect a₄) absent a.redirect a (said-redirect a₄ a.redirect c.redirects) (say-nothing a)))))

right-length : (octets count : ℕ) → octets ≡ 8 * count → count ≤ 64 → wrong_length octets ≡ false
right-length octets count h p = rw (le-ltb 512 octets (omega arith), eq-eqb (octets % 8) 0 (omega arith))

-- Every actions that could be are those of some communities.
pub possible-read : (a : Actions) → could_be a ≡ true → (s : List ℕ) × (Octets s) × (length s ≤ 512) × (actions_of s ≡ Some a)
possible-read a h =
    let p = says a (could a h) in
    let few = p.few in
    let s = written p.communities in
    let long = length-written p.communities in
    let count : length s / 8 ≡ length p.communities = omega arith in
    let right = right-length (length s) (length p.communities) long (omega arith) in
    (s, written-octets p.communities, omega arith, rw (by-reading s, right, count, communities-written p.communities p.fit) p.reads)
