-- What the program prints. Every line of it ends in LF.
use Rattle.std.specs.Prelude.{ℕ, ◌+◌, ◌*◌, ◌/◌, ◌≤◌, ◌≡◌, cond, ◌&&◌, List, [], ◌∷◌, ◌++◌, leb, length}
use Rattle.rule.specs.Family.{ipv4}
use Rattle.entry.specs.Record.{head_cost}
use Rattle.table.specs.Walk.{records}
use Rattle.table.specs.Sound.{sound_table}
use Rattle.flowspec.specs.Told.{Told}
use Rattle.text.specs.Hex.{hex_of}
use Rattle.text.specs.Decimal.{decimal_of}
use Rattle.text.specs.Spelling.{quoted}
use Rattle.text.specs.Print.{laid}

-- 01: "3 to 7 print their place as a further field."
unfoldable pub place_text : ℕ → ℕ → List ℕ
place_text number place = cond (leb 3 number && leb number 7) (quoted "\t" ++ decimal_of place) []

-- The answer of a call: its number in decimal, 0 where it is done.
unfoldable pub answer_text : ℕ → ℕ → List ℕ
answer_text number place = quoted "answer\t" ++ (decimal_of number ++ (place_text number place ++ quoted "\n"))

-- The answer to "a line of another form, over 16,384 octets, or a route past 4,096".
abbrev pub unknown_text : List ℕ
unknown_text = quoted "answer\t?\n"

-- What announcing and withdrawing answer.
abbrev pub change_text : Told → List ℕ
change_text told = answer_text told.number told.place

-- A record of the table: its octets in hex.
unfoldable pub rule_text : List ℕ → List ℕ
rule_text held = quoted "rule\t" ++ (hex_of held ++ quoted "\n")

-- Records, one line each, in the order of the table.
unfoldable pub rules_text : List (List ℕ) → List ℕ
rules_text [] = []
rules_text (held ∷ rest) = rule_text held ++ rules_text rest

-- How many records there are.
unfoldable pub count_text : ℕ → List ℕ
count_text count = quoted "rules\t" ++ (decimal_of count ++ quoted "\n")

-- The table: the number of its records, then each of them. A table that is not sound, which the program never has, is answered by 10.
unfoldable pub list_text : List ℕ → List ℕ
list_text table = cond (sound_table ipv4 table) (count_text (length (records table)) ++ rules_text (records table)) (answer_text 10 0)

-- No answer has more octets than these: `answer` and a tab, a number of at most 3 digits, a tab and a place of at most 20, and LF. The first line
-- of a list, `rules` and a tab, a count of at most 20 digits and LF, has less.
abbrev pub most_answer : ℕ
most_answer = 32

-- No record has fewer octets than these: a head, and a value of one octet.
abbrev pub least_record : ℕ
least_record = head_cost + 1

-- No line prints more octets than these over a table of n octets: it prints an answer, or a list, whose first line has no more than an answer,
-- and whose others have two digits for each octet of the table and six more, `rule`, a tab and LF, for each record that n octets can hold.
abbrev pub most_text : ℕ → ℕ
most_text n = most_answer + (2 * n + 6 * (n / least_record))

-- A text was printed to the front of a buffer, as far as that reaches: what the buffer holds then, and how long the text is, which is no
-- more than the most.
abbrev pub Answered : ℕ → List ℕ → List ℕ → List ℕ → ℕ → Type 0
Answered most out text exit printed = (exit ≡ laid out 0 text) × (printed ≡ length text) × (printed ≤ most)
