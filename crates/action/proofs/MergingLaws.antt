-- Laws of merging: it is associative, merging with no actions changes nothing but T, and T is never carried.
use mathlib.Core.Path.{◌≡◌, refl}
use mathlib.Core.Bool.{true, false, or-false}
use Rattle.action.specs.declared.Actions.{Actions}
use Rattle.action.specs.Given.{first_of}
use Rattle.action.specs.Actions.{no_actions}
use Rattle.action.specs.Merging.{merged}
use Rattle.action.specs.Possible.{could_be}
use Rattle.action.specs.Reading.{with_flags}
use Rattle.action.proofs.GivenLaws.{first-assoc, or_assoc, fine-first, first_absent}
use Rattle.action.proofs.LimitLaws.{smaller-assoc, smaller_before, smaller-behind, smaller-could}
use Rattle.action.proofs.PossibleLaws.{could, could-be, six_bits, redirect_type}

pub merged-assoc : (a b c : Actions) → merged (merged a b) c ≡ merged a (merged b c)
unfolding merged
merged-assoc a b c =
    rw (
      smaller-assoc a.bytes b.bytes c.bytes,
      smaller-assoc a.packets b.packets c.packets,
      or_assoc a.sample b.sample c.sample,
      first-assoc a.marking b.marking c.marking,
      first-assoc a.redirect b.redirect c.redirect,
    )

-- T is never carried.
pub merged-no-T : (a b : Actions) → (merged a b).onward ≡ false
unfolding merged
merged-no-T a b = refl

-- Nothing before changes nothing but T.
pub merged-nothing-before : (a : Actions) → merged no_actions a ≡ with_flags a a.sample false
unfolding merged first_of
merged-nothing-before a = rw (smaller_before a.bytes, smaller_before a.packets)

-- Nothing after changes nothing but T, of actions that some communities could give.
pub merged-nothing-after : (a : Actions) → could_be a ≡ true → merged a no_actions ≡ with_flags a a.sample false
unfolding merged
merged-nothing-after a h =
    let p = could a h in
    rw (
      smaller-behind a.bytes p.bytes,
      smaller-behind a.packets p.packets,
      or-false a.sample,
      first_absent six_bits a.marking p.marks,
      first_absent redirect_type a.redirect p.redirects,
    )

-- What some communities could give stays such when merged.
pub could-merged : (a b : Actions) → could_be a ≡ true → could_be b ≡ true → could_be (merged a b) ≡ true
unfolding merged
could-merged a b h k =
    let p = could a h in
    let q = could b k in
    could-be (merged a b)
    (record {
      bytes = smaller-could a.bytes b.bytes p.bytes q.bytes;
      packets = smaller-could a.packets b.packets p.packets q.packets;
      marks = fine-first six_bits a.marking b.marking p.marks q.marks;
      redirects = fine-first redirect_type a.redirect b.redirect p.redirects q.redirects;
    })
