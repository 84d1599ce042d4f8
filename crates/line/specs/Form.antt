-- How the code holds what a line says: by places in the line and by numbers, since the octets stay where they are. These definitions are
-- the code's own; what is promised stands in Line.antt.
use Rattle.std.specs.Prelude.{ℕ, ◌+◌, ◌≤◌, ◌≡◌, Bool, true, false, cond, List, [], ◌∷◌, ltb, length, drop, Option, Some, None}
use Rattle.std.specs.declared.ops.Range.{Range}
use Rattle.rule.specs.Value.{between}
use Rattle.text.specs.Hex.{octets_in}
use Rattle.text.specs.Decimal.{is_number, number_in}
use Rattle.text.specs.Field.{fields}
use Rattle.line.specs.declared.Form.{Form}
use Rattle.line.specs.declared.Form.TheVariants.{Route, Announce, Withdraw, Listing}
use Rattle.line.specs.Line.{Line, route, announce, withdraw, list, other}

-- The fields behind the one that ends at a place; none where the line ends there.
unfoldable pub behind : List ℕ → ℕ → List (List ℕ)
behind line end = cond (ltb end (length line)) (fields (drop (end + 1) line)) []

-- Whether there is a first field and it passes a test.
abbrev pub first_is : (List ℕ → Bool) → List (List ℕ) → Bool
first_is test [] = false
first_is test (text ∷ fs) = test text

-- A field from `start` to `stop` is the first behind the one that ends at a place, passes a test, and has the others behind it.
pub record Fielded (test : List ℕ → Bool) (line : List ℕ) (end start stop : ℕ) : Type 0 where
  pub is : behind line end ≡ between line start stop ∷ behind line stop
  pub good : test (between line start stop) ≡ true
  pub rising : start ≤ stop
  pub within : stop ≤ length line

-- How the code holds the first field behind a place, if it passes a test.
abbrev pub FieldSays : (List ℕ → Bool) → List ℕ → ℕ → Option (Range ℕ) → Type 0
FieldSays test line end None = first_is test (behind line end) ≡ false
FieldSays test line end (Some field) = Fielded test line end field.start field.end

-- The same by answers to the test: whatever test they are those of, the field passes it.
abbrev pub FieldBy : (List ℕ → Bool → Type 0) → List ℕ → ℕ → Option (Range ℕ) → Type 0
FieldBy answers line end field =
    (test : List ℕ → Bool) → ((text : List ℕ) (holds : Bool) → answers text holds → holds ≡ test text) → FieldSays test line end field

-- A field that is a number.
pub record Numbered (line : List ℕ) (end number stop : ℕ) : Type 0 where
  pub start : ℕ
  pub there : Fielded is_number line end start stop
  pub says : number_in (between line start stop) ≡ number

-- How the code holds the number in it.
abbrev pub NumberSays : List ℕ → ℕ → Option (ℕ × ℕ) → Type 0
NumberSays line end None = first_is is_number (behind line end) ≡ false
NumberSays line end (Some (number, stop)) = Numbered line end number stop

-- What a form says of its line; a line of no form says nothing.
abbrev pub form_says : List ℕ → Option Form → Line
form_says line (Some (Route address size originator neighbour)) = route address size originator neighbour
form_says line (Some (Announce rule rule_end originator communities)) =
    announce (octets_in (between line rule rule_end)) originator (octets_in (between line communities (length line)))
form_says line (Some (Withdraw rule)) = withdraw (octets_in (between line rule (length line)))
form_says line (Some Listing) = list
form_says line None = other

-- A form's places lie in its line.
abbrev pub FormIn : List ℕ → Option Form → Type 0
FormIn line (Some (Route address size originator neighbour)) = Unit {0}
FormIn line (Some (Announce rule rule_end originator communities)) =
    (rule ≤ rule_end) × ((rule_end ≤ length line) × (communities ≤ length line))
FormIn line (Some (Withdraw rule)) = rule ≤ length line
FormIn line (Some Listing) = Unit {0}
FormIn line None = Unit {0}

-- A form says what is to be said.
pub record Says (line : List ℕ) (form : Option Form) (what : Line) : Type 0 where
  pub is : form_says line form ≡ what
  pub within : FormIn line form
