-- Outcomes that are expected: lines of an earlier listing, by which an outcome is known whatever
-- its number and its order.
use Rattle.std.specs.Prelude.{ℕ, ◌+◌, ◌==◌, nat_le, ◌&&◌, ◌||◌, Bool, true, false, not, List, []}
use Rattle.std.specs.Prelude.{◌∷◌, ◌++◌, codes, bytes_eq, take, drop, length, map, Option, Some}
use Rattle.std.specs.Prelude.{None, if◌then◌else◌, position}
use Rattle.std.specs.List.{flat_map, list_any}
use Rattle.std.specs.Option.{option_to_list}
use Rattle.json_lines.specs.declared.form.Form.{Form}
use Rattle.jvm_types.specs.declared.program.Program.{Program}
use Rattle.machine_types.specs.PlainState.{Plain}
use Rattle.outcomes.specs.declared.all_outcomes.Outcomes.{Outcomes}
use Rattle.outcomes.specs.declared.listing.Listed.{Listed}
use Rattle.tellings.specs.Forms.{told_in, words_told}
use Rattle.tellings.specs.declared.facts.Fact.{Fact}
use Rattle.tellings.specs.declared.facts.Fact.TheVariants.{Count, Text, Words}
use Rattle.tellings.specs.declared.keys.Key.TheVariants as keys
use Rattle.outcome_texts.specs.OutcomeFacts.{ends_facts, outcome_kind, prints_facts}
use Rattle.outcome_texts.specs.TextParts.{parts_from}

-- ---- an outcome, as its line has it: `outcome prints 2`, or `stuck prints -, done not run`

abbrev pub known_facts : Program → Plain → List Fact
known_facts p q = Words (outcome_kind q) ∷ prints_facts q.prints ++ ends_facts p q

abbrev pub known_words : Program → Plain → List ℕ
known_words p q = flat_map words_told (known_facts p q)

abbrev pub all_known : Program → List Listed → List (List ℕ)
all_known p listed = map (λ x. known_words p x.at.plain.state) listed

-- ---- a line of the file

-- no space and no digit
abbrev pub is_of_word : ℕ → Bool
is_of_word c = not (c == 32 || (nat_le 48 c && nat_le c 57))

abbrev pub from_place : List ℕ → Option ℕ → List ℕ
from_place text None = []
from_place text (Some i) = drop i text

abbrev pub behind_number : List ℕ → List ℕ
behind_number text = from_place text (position is_of_word text)

abbrev pub is_front_of : (front text : List ℕ) → Bool
is_front_of front text = bytes_eq (take (length front) text) front

-- without the number of the outcome; None: it is the line of none
abbrev pub expected_words : (line : List ℕ) → Option (List ℕ)
expected_words line =
    if is_front_of (codes "outcome ") line
    then Some (codes "outcome " ++ behind_number (drop 8 line))
    else if is_front_of (codes "stuck ") line
    then Some (codes "stuck " ++ behind_number (drop 6 line))
    else None

abbrev pub expected_outcomes : (file : List ℕ) → List (List ℕ)
expected_outcomes file =
    flat_map (λ line. option_to_list (expected_words line)) (parts_from 10 [] file)

-- ---- whether it is the same outcome

-- nothing comes behind but an order, or that there is none
abbrev pub is_rest_of_line : List ℕ → Bool
is_rest_of_line [] = true
is_rest_of_line (c ∷ cs) =
    is_front_of (codes ", order ") (c ∷ cs) || is_front_of (codes ", no order ") (c ∷ cs)

abbrev pub is_known_by : (expected known : List ℕ) → Bool
is_known_by expected known =
    is_front_of known expected && is_rest_of_line (drop (length known) expected)

abbrev pub is_expected : (expected : List (List ℕ)) → (known : List ℕ) → Bool
is_expected expected known = list_any (λ e. is_known_by e known) expected

abbrev pub is_found_among : (known : List (List ℕ)) → (expected : List ℕ) → Bool
is_found_among known expected = list_any (is_known_by expected) known

-- ---- what is told

unfoldable pub unexpected_name : List ℕ
unexpected_name = codes "unexpected"

abbrev pub unexpected_text : Form → (number : ℕ) → (is_expected : Bool) → List ℕ
unexpected_text form number true = []
unexpected_text form number false =
    told_in form unexpected_name
    (Words (codes "not expected") ∷ Count keys.InOutcome number ∷ [])

-- from a number on
abbrev pub unexpected_texts : Form → (expected : List (List ℕ)) → (number : ℕ) → List (List ℕ)
    → List ℕ
unexpected_texts form expected number [] = []
unexpected_texts form expected number (x ∷ known) =
    unexpected_text form number (is_expected expected x)
    ++ unexpected_texts form expected (number + 1) known

unfoldable pub missing_name : List ℕ
missing_name = codes "missing"

abbrev pub missing_text_if : Form → (expected : List ℕ) → (is_found : Bool) → List ℕ
missing_text_if form expected true = []
missing_text_if form expected false =
    told_in form missing_name
    (Words (codes "expected, and not found") ∷ Text keys.Line expected ∷ [])

abbrev pub missing_text : Form → (known : List (List ℕ)) → (expected : List ℕ) → List ℕ
missing_text form known expected =
    missing_text_if form expected (is_found_among known expected)

abbrev pub expectation_text_of : Form → (expected known : List (List ℕ)) → List ℕ
expectation_text_of form expected known =
    unexpected_texts form expected 1 known ++ flat_map (missing_text form known) expected

abbrev pub has_unexpected : (expected known : List (List ℕ)) → Bool
has_unexpected expected known = list_any (λ x. not (is_expected expected x)) known

-- ---- of the file that is given, if one is

abbrev pub expectation_text : Form → Program → Outcomes → (file : Option (List ℕ)) → List ℕ
expectation_text form p o None = []
expectation_text form p o (Some file) =
    expectation_text_of form (expected_outcomes file) (all_known p o.listed)

abbrev pub is_unexpected : Program → Outcomes → (file : Option (List ℕ)) → Bool
is_unexpected p o None = false
is_unexpected p o (Some file) = has_unexpected (expected_outcomes file) (all_known p o.listed)
