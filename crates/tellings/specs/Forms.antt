-- The two forms of what is told: the words of a line, and the members of an object of JSON.
use Rattle.std.specs.Prelude.{ℕ, ℤ, Bool, true, false, List, [], ◌∷◌, ◌++◌, codes}
use Rattle.std.specs.Prelude.{if◌then◌else◌}
use Rattle.std.specs.List.{flat_map}
use Rattle.std.specs.Fmt.{decimal, signed_decimal}
use Rattle.json_lines.specs.Json.{json_text, number_member, text_member}
use Rattle.json_lines.specs.declared.form.Form.{Form}
use Rattle.json_lines.specs.declared.form.Form.TheVariants as forms
use Rattle.tellings.specs.Keys.{KeyRow, key_row}
use Rattle.tellings.specs.declared.keys.Key.{Key}
use Rattle.tellings.specs.declared.facts.Fact.{Fact}
use Rattle.tellings.specs.declared.facts.Fact.TheVariants.{Words, Text, Count, Value, Texts}
use Rattle.tellings.specs.declared.facts.Fact.TheVariants.{Opens, Lists, Item, Closes, Ends}

-- ---- a text where there is one

abbrev pub text_facts : Key → (words : List ℕ) → List Fact
text_facts key [] = []
text_facts key words = Text key words ∷ []

-- ---- on a line

abbrev pub piece : KeyRow → (words : List ℕ) → List ℕ
piece r words = if r.is_shown then r.before ++ words ++ r.behind else []

abbrev pub listed_words : List (List ℕ) → List ℕ
listed_words [] = codes "none"
listed_words (a ∷ []) = a
listed_words (a ∷ more) = a ++ codes ", " ++ listed_words more

abbrev pub words_told : Fact → List ℕ
words_told (Words text) = text
words_told (Text key text) = piece (key_row key) text
words_told (Count key n) = piece (key_row key) (decimal n)
words_told (Value key n) = piece (key_row key) (signed_decimal n)
words_told (Texts key texts) = piece (key_row key) (listed_words texts)
words_told (Opens key) = piece (key_row key) []
words_told (Lists key) = piece (key_row key) []
words_told fact = []

-- ---- in an object

-- a member or an object behind others has a comma before it, and the first one has none
abbrev pub comma : (first : Bool) → List ℕ
comma true = []
comma false = codes ","

abbrev pub is_first_behind : (first : Bool) → Fact → Bool
is_first_behind first (Words text) = first
is_first_behind first (Opens key) = true
is_first_behind first (Lists key) = true
is_first_behind first Item = true
is_first_behind first fact = false

abbrev pub listed_items : List (List ℕ) → List ℕ
listed_items [] = []
listed_items (a ∷ []) = json_text a
listed_items (a ∷ more) = json_text a ++ codes "," ++ listed_items more

unfoldable pub value_member : (key : List ℕ) → ℤ → List ℕ
value_member key n = json_text key ++ codes ":" ++ signed_decimal n

unfoldable pub texts_member : (key : List ℕ) → List (List ℕ) → List ℕ
texts_member key texts = json_text key ++ codes ":[" ++ listed_items texts ++ codes "]"

unfoldable pub member_begin : (key begin : List ℕ) → List ℕ
member_begin key begin = json_text key ++ codes ":" ++ begin

-- without the comma
abbrev pub member_told : Fact → List ℕ
member_told (Text key text) = text_member (key_row key).member text
member_told (Count key n) = number_member (key_row key).member n
member_told (Value key n) = value_member (key_row key).member n
member_told (Texts key texts) = texts_member (key_row key).member texts
member_told (Opens key) = member_begin (key_row key).member (codes "{")
member_told (Lists key) = member_begin (key_row key).member (codes "[")
member_told fact = codes "{"

abbrev pub member_behind : (first : Bool) → Fact → List ℕ
member_behind first (Words text) = []
member_behind first Closes = codes "}"
member_behind first Ends = codes "]"
member_behind first fact = comma first ++ member_told fact

abbrev pub members_told : (first : Bool) → List Fact → List ℕ
members_told first [] = []
members_told first (f ∷ fs) = member_behind first f ++ members_told (is_first_behind first f) fs

-- ---- all facts

abbrev pub line_of : List Fact → List ℕ
line_of facts = flat_map words_told facts ++ codes "\n"

abbrev pub object_of : (what : List ℕ) → List Fact → List ℕ
object_of what facts =
    codes "{" ++ text_member (codes "what") what ++ members_told false facts ++ codes "}\n"

abbrev pub told_in : Form → (what : List ℕ) → List Fact → List ℕ
told_in forms.Lines what facts = line_of facts
told_in forms.Json what facts = object_of what facts
