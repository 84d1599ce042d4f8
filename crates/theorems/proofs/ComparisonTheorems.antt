-- Comparing is 01's order of rules, of the call by its own promise: a tie is exactly between equal plain spellings, the other way round
-- gives the other answer, and what comes before what comes before a rule comes before that rule. What the call is lent is octets.
use mathlib.Core.Path.{◌≡◌, refl, sym, ap, ◌∙◌}
use mathlib.Core.Logic.{◌↔◌}
use mathlib.Core.List.{List}
use Prim.Native.Nat.{ℕ, Ordering}
use Rattle.std.proofs.Common.{Result, Ok, Err}
use Rattle.std.specs.declared.cmp.Ordering.{Ordering as Order}
use Rattle.std.specs.declared.cmp.Ordering.TheVariants.{Less, Equal, Greater}
use Rattle.octets.specs.Order.{ordered}
use Rattle.octets.proofs.Cases.{apart}
use Rattle.octets.proofs.Facts.{Octets}
use Rattle.octets.proofs.OrderLaws.{swap}
use Rattle.rule.specs.declared.Family.{Family}
use Rattle.rule.specs.declared.Refusal.{Refusal}
use Rattle.rule.specs.declared.Span.{Span}
use Rattle.rule.specs.Family.{Fits}
use Rattle.rule.specs.Reading.{value_of, one_rule, span}
use Rattle.rule.proofs.ReadingLaws.{one-read}
use Rattle.order.specs.Precedence.{precedence}
use Rattle.order.proofs.KeyLaws.{equal-ties, tie-equal, precedence-flip, precedence-trans}
use Rattle.order.specs.Compare.{IsRule, SameRule, compare_read, compare_rules}
use Rattle.flowspec.specs.Promise.{ComparesTwo}
use Rattle.request.proofs.RequestLaws.{octets-value}

-- two accepted rules, and which of their values comes first
record Compared (family : Family) (a b : List ℕ) (o : Ordering) : Type 0 where
  pub first : IsRule family a
  pub second : IsRule family b
  pub is : precedence family (value_of a first.start first.size) (value_of b second.start second.size) ≡ o

-- no answer stands for two outcomes
one-outcome : (o p : Ordering) → ordered o ≡ ordered p → o ≡ p
one-outcome Ordering.lt Ordering.lt e = refl
one-outcome Ordering.lt Ordering.eq e = apart (cc)
one-outcome Ordering.lt Ordering.gt e = apart (cc)
one-outcome Ordering.eq Ordering.lt e = apart (cc)
one-outcome Ordering.eq Ordering.eq e = refl
one-outcome Ordering.eq Ordering.gt e = apart (cc)
one-outcome Ordering.gt Ordering.lt e = apart (cc)
one-outcome Ordering.gt Ordering.eq e = apart (cc)
one-outcome Ordering.gt Ordering.gt e = refl

module _ (family : Family) (a b : List ℕ) (o : Ordering) where
  -- rules are compared by their values' precedence where both are accepted, and only there
  was-compared : compare_rules family a b ≡ Ok (ordered o) → Compared family a b o
  unfolding compare_rules
  was-compared e = go (one_rule family a) refl (one_rule family b) refl e
    where
      go : (x : Result Span Refusal) → one_rule family a ≡ x → (y : Result Span Refusal) → one_rule family b ≡ y → compare_read family a x b y ≡ Ok (ordered o) → Compared family a b o
      go (Err refusal) f y g h = apart (cc)
      go (Ok read) f (Err refusal) g h = apart (cc)
      go (Ok read) f (Ok other) g h =
          let values = precedence family (value_of a read.start read.size) (value_of b other.start other.size) in
          let same : ordered values ≡ ordered o = cc in
          record {
            first = record { start = read.start; size = read.size; read = f };
            second = record { start = other.start; size = other.size; read = g };
            is = one-outcome values o same;
          }

  compared : Compared family a b o → compare_rules family a b ≡ Ok (ordered o)
  unfolding compare_rules
  compared c = rw (c.first.read, c.second.read, c.is)

-- the rule that octets are is one
one_value : (family : Family) (s : List ℕ) (p q : IsRule family s) → value_of s p.start p.size ≡ value_of s q.start q.size
one_value family s p q =
    let same = sym p.read ∙ q.read in
    let spans : span p.start p.size ≡ span q.start q.size = cc in
    ap (λ (r : Span). value_of s r.start r.size) spans

-- the value of a rule is octets
value-octets : (family : Family) (s : List ℕ) → Octets s → (p : IsRule family s) → Octets (value_of s p.start p.size)
value-octets family s o p = octets-value s p.start p.size o

turned : (family : Family) → Fits family → (a b : List ℕ) → Octets a → Octets b → (x : Ordering) → Compared family a b x → Compared family b a (swap x)
turned family fits a b o p x c =
    record {
      first = c.second;
      second = c.first;
      is = precedence-flip family fits _ _ (value-octets family a o c.first) (value-octets family b p c.second) ∙ ap swap c.is;
    }

turn : (family : Family) → Fits family → (a b : List ℕ) → Octets a → Octets b → (answer other : Result Order Refusal) (kept held : List (List ℕ)) → ComparesTwo family a b answer kept
    → ComparesTwo family b a other held → (x : Ordering) → answer ≡ Ok (ordered x) → other ≡ Ok (ordered (swap x))
turn family fits a b o p answer other kept held compares back x e =
    back.is ∙ compared family b a (swap x) (turned family fits a b o p x (was-compared family a b x (sym compares.is ∙ e)))

module _ (family : Family) (fits : Fits family) (a b : List ℕ) (o : Octets a) (p : Octets b) where
  module _ (answer : Result Order Refusal) (kept : List (List ℕ)) (compares : ComparesTwo family a b answer kept) where
    -- **Tie.** 01: "A tie occurs exactly between equal plain spellings."
    pub tie-exactly : (answer ≡ Ok Equal) ↔ SameRule family a b
    tie-exactly = (
      λ e.
          let c = was-compared family a b Ordering.eq (sym compares.is ∙ e) in
          record {
            first = c.first;
            second = c.second;
            equal = tie-equal family fits _ _ (value-octets family a o c.first) (value-octets family b p c.second) (one-read family a _ _ c.first.read).accepted (one-read family b _ _ c.second.read).accepted c.is;
          },
      λ s.
          compares.is
          ∙ compared family a b Ordering.eq (record {
            first = s.first;
            second = s.second;
            is = equal-ties family fits _ _ (value-octets family a o s.first) (value-octets family b p s.second) s.equal;
          }),
    )

    -- **The other way round** gives the other answer: first and second change places, and a tie stays one.
    module _ (other : Result Order Refusal) (held : List (List ℕ)) (back : ComparesTwo family b a other held) where
      pub turned-first : (answer ≡ Ok Less) ↔ (other ≡ Ok Greater)
      turned-first = (turn family fits a b o p answer other kept held compares back Ordering.lt, turn family fits b a p o other answer held kept back compares Ordering.gt)

      pub turned-second : (answer ≡ Ok Greater) ↔ (other ≡ Ok Less)
      turned-second = (turn family fits a b o p answer other kept held compares back Ordering.gt, turn family fits b a p o other answer held kept back compares Ordering.lt)

      pub turned_same : (answer ≡ Ok Equal) ↔ (other ≡ Ok Equal)
      turned_same = (turn family fits a b o p answer other kept held compares back Ordering.eq, turn family fits b a p o other answer held kept back compares Ordering.eq)

-- **What comes before what comes before a rule** comes before that rule.
pub first-of-three : (family : Family) → Fits family → (a b c : List ℕ) → Octets a → Octets b → Octets c → (x y z : Result Order Refusal) (k l m : List (List ℕ))
    → ComparesTwo family a b x k → ComparesTwo family b c y l → ComparesTwo family a c z m → x ≡ Ok Less → y ≡ Ok Less → z ≡ Ok Less
first-of-three family fits a b c o p q x y z k l m before after outer e f =
    let u = was-compared family a b Ordering.lt (sym before.is ∙ e) in
    let v = was-compared family b c Ordering.lt (sym after.is ∙ f) in
    outer.is
    ∙ compared family a c Ordering.lt (record {
      first = u.first;
      second = v.second;
      is = precedence-trans family fits _ _ _ (value-octets family a o u.first) (value-octets family b p v.first) (value-octets family c q v.second) (rw (one_value family b v.first u.second) u.is) v.is;
    })
