-- For each public call: two results that satisfy its promise are equal, in the answer and in every lent octet. Assumes nothing.
use mathlib.Core.Path.{◌≡◌, sym, ◌∙◌}
use mathlib.Core.List.{List}
use Prim.Native.Nat.{ℕ}
use Rattle.std.proofs.Common.{Result, Option}
use Rattle.std.specs.declared.cmp.Ordering.{Ordering as Order}
use Rattle.rule.specs.declared.Family.{Family}
use Rattle.rule.specs.declared.Refusal.{Refusal}
use Rattle.rule.specs.declared.Span.{Span}
use Rattle.action.specs.declared.Actions.{Actions}
use Rattle.route.specs.declared.Origin.{Origin}
use Rattle.table.specs.declared.Place.{Place}
use Rattle.lookup.specs.declared.Matched.{Matched}
use Rattle.request.specs.Input.{Announcement, Policy}
use Rattle.flowspec.specs.Promise.{ReadsOne, WritesOne, ComparesTwo, JudgesOne, ReadsActions, Announces, Withdraws, LooksUp, LocatesFirst, FirstMatches}

pub one-reading-of-actions : (k l : List (List ℕ)) (communities : List ℕ) (a b : Option Actions) → ReadsActions communities a k
    → ReadsActions communities b l → (a ≡ b) × (k ≡ l)
one-reading-of-actions k l communities a b p q = (p.is ∙ sym q.is, p.keeps ∙ sym q.keeps)

module _ (family : Family) (k l : List (List ℕ)) where
  pub one-reading : (rule : List ℕ) (a b : Result Span Refusal) → ReadsOne family rule a k → ReadsOne family rule b l → (a ≡ b) × (k ≡ l)
  one-reading rule a b p q = (p.is ∙ sym q.is, p.keeps ∙ sym q.keeps)

  pub one-writing : (value buffer : List ℕ) (a b : Result ℕ Refusal) (x y : List ℕ) → WritesOne family value buffer a x k → WritesOne family value buffer b y l
      → (a ≡ b) × ((x ≡ y) × (k ≡ l))
  one-writing value buffer a b x y p q = (p.is ∙ sym q.is, (p.leaves ∙ sym q.leaves, p.keeps ∙ sym q.keeps))

  pub one-comparison : (first second : List ℕ) (a b : Result Order Refusal) → ComparesTwo family first second a k → ComparesTwo family first second b l → (a ≡ b) × (k ≡ l)
  one-comparison first second a b p q = (p.is ∙ sym q.is, p.keeps ∙ sym q.keeps)

  pub one-judgement : (policy : Policy) (rule : List ℕ) (origin : Origin) (a b : Result Unit Refusal) → JudgesOne family policy rule origin a k
      → JudgesOne family policy rule origin b l → (a ≡ b) × (k ≡ l)
  one-judgement policy rule origin a b p q = (p.is ∙ sym q.is, p.keeps ∙ sym q.keeps)

  pub one-announcement : (policy : Policy) (announcement : Announcement) (table : List ℕ) (a b : Result ℕ Refusal) (x y : List ℕ)
      → Announces family policy announcement table a x k → Announces family policy announcement table b y l
      → (a ≡ b) × ((x ≡ y) × (k ≡ l))
  one-announcement policy announcement table a b x y p q =
      (p.is ∙ sym q.is, (p.leaves ∙ sym q.leaves, p.keeps ∙ sym q.keeps))

  pub one-withdrawal : (rule table : List ℕ) (a b : Result Unit Refusal) (x y : List ℕ) → Withdraws family rule table a x k → Withdraws family rule table b y l
      → (a ≡ b) × ((x ≡ y) × (k ≡ l))
  one-withdrawal rule table a b x y p q = (p.is ∙ sym q.is, (p.leaves ∙ sym q.leaves, p.keeps ∙ sym q.keeps))

  pub one-lookup : (table packet : List ℕ) (a b : Result (Option Matched) Refusal) → LooksUp family table packet a k → LooksUp family table packet b l → (a ≡ b) × (k ≡ l)
  one-lookup table packet a b p q = (p.is ∙ sym q.is, p.keeps ∙ sym q.keeps)

  pub one-match-place : (table packet : List ℕ) (a b : Result Place Refusal) → LocatesFirst family table packet a k → LocatesFirst family table packet b l → (a ≡ b) × (k ≡ l)
  one-match-place table packet a b p q = (p.is ∙ sym q.is, p.keeps ∙ sym q.keeps)

  -- a first match is settled in its octets and in where it stands
  pub one-first-match : (table packet : List ℕ) (lent : ℕ × ℕ) (x y : List ℕ) (p q : ℕ × ℕ) → FirstMatches family table packet lent x p k
      → FirstMatches family table packet lent y q l → (x ≡ y) × ((p ≡ q) × (k ≡ l))
  one-first-match table packet lent x y p q a b = (a.is ∙ sym b.is, (a.begins ∙ sym b.begins, a.keeps ∙ sym b.keeps))
