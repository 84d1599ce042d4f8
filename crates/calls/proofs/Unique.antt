-- For each call: two results that satisfy its promise are equal, in the word and in every lent buffer at exit. Assumes nothing.
use mathlib.Core.Path.{◌≡◌, sym, ◌∙◌}
use Prim.Native.Nat.{ℕ}
use Rattle.rule.specs.declared.Family.{Family}
use Rattle.route.specs.declared.Origin.{Origin}
use Rattle.route.specs.declared.Settings.{Settings}
use Rattle.flowspec.specs.Told.{Told}
use Rattle.calls.specs.Buffers.{ReadBuffers, WriteBuffers, CompareBuffers, FeasibleBuffers, ActionsBuffers, AnnounceBuffers, WithdrawBuffers, ReachBuffers, UnreachBuffers, LookupBuffers}
use Rattle.calls.specs.Promise.{Returns, ReadCall, WriteCall, CompareCall, FeasibleCall, ActionsCall, AnnounceCall, WithdrawCall, ReachCall, UnreachCall, LookupCall, FirstMatchCall}

-- one word for each answer, and what the buffers hold after it
one-return : {Buffers : Type 0} {answer : Told} {after : Buffers} {a b : ℕ} {x y : Buffers} → Returns answer after a x → Returns answer after b y → (a ≡ b) × (x ≡ y)
one-return p q = (p.is ∙ sym q.is, p.leaves ∙ sym q.leaves)

pub one-actions : (lent : ActionsBuffers) (a b : ℕ) (x y : ActionsBuffers) → ActionsCall lent a x → ActionsCall lent b y → (a ≡ b) × (x ≡ y)
one-actions lent a b x y p q = one-return p q

module _ (family : Family) where
  pub one-read : (lent : ReadBuffers) (a b : ℕ) (x y : ReadBuffers) → ReadCall family lent a x → ReadCall family lent b y → (a ≡ b) × (x ≡ y)
  one-read lent a b x y p q = one-return p q

  pub one-write : (lent : WriteBuffers) (a b : ℕ) (x y : WriteBuffers) → WriteCall family lent a x → WriteCall family lent b y → (a ≡ b) × (x ≡ y)
  one-write lent a b x y p q = one-return p q

  pub one-compare : (lent : CompareBuffers) (a b : ℕ) (x y : CompareBuffers) → CompareCall family lent a x → CompareCall family lent b y → (a ≡ b) × (x ≡ y)
  one-compare lent a b x y p q = one-return p q

  pub one-withdraw : (lent : WithdrawBuffers) (a b : ℕ) (x y : WithdrawBuffers) → WithdrawCall family lent a x → WithdrawCall family lent b y → (a ≡ b) × (x ≡ y)
  one-withdraw lent a b x y p q = one-return p q

  pub one-unreach : (lent : UnreachBuffers) (a b : ℕ) (x y : UnreachBuffers) → UnreachCall family lent a x → UnreachCall family lent b y → (a ≡ b) × (x ≡ y)
  one-unreach lent a b x y p q = one-return p q

  pub one-lookup : (lent : LookupBuffers) (a b : ℕ) (x y : LookupBuffers) → LookupCall family lent a x → LookupCall family lent b y → (a ≡ b) × (x ≡ y)
  one-lookup lent a b x y p q = one-return p q

  pub one-first-match : (lent : LookupBuffers) (a b : ℕ) (x y : LookupBuffers) → FirstMatchCall family lent a x → FirstMatchCall family lent b y → (a ≡ b) × (x ≡ y)
  one-first-match lent a b x y p q = one-return p q

  module _ (settings : Settings) (origin : Origin) where
    pub one-feasible : (lent : FeasibleBuffers) (a b : ℕ) (x y : FeasibleBuffers) → FeasibleCall family settings origin lent a x
        → FeasibleCall family settings origin lent b y → (a ≡ b) × (x ≡ y)
    one-feasible lent a b x y p q = one-return p q

    pub one-announce : (lent : AnnounceBuffers) (a b : ℕ) (x y : AnnounceBuffers) → AnnounceCall family settings origin lent a x
        → AnnounceCall family settings origin lent b y → (a ≡ b) × (x ≡ y)
    one-announce lent a b x y p q = one-return p q

    pub one-reach : (lent : ReachBuffers) (a b : ℕ) (x y : ReachBuffers) → ReachCall family settings origin lent a x
        → ReachCall family settings origin lent b y → (a ≡ b) × (x ≡ y)
    one-reach lent a b x y p q = one-return p q
