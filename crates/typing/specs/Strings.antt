-- Strings (ISO 7185:1990, 6.1.7): their characters, the type of a string, and what a constant is that a string stands
-- for. They say nothing of where a string stands.
use Rattle.std.specs.Prelude.{ℕ, ◌==◌, pos, true, not, ◌&&◌, List, [], ◌∷◌, length, Option, Some, None, option_map}
use Rattle.std.specs.Prelude.{if◌then◌else◌}
use Rattle.std.specs.List.{list_all}
use Rattle.place.specs.declared.Place.{Place}
use Rattle.types.specs.Forms.{Subrange, Array}
use Rattle.types.specs.declared.form.TypeId.{TypeId}
use Rattle.types.specs.Types.{integer, char}
use Rattle.scopes.specs.declared.denotation.Denotation.{Denotation}
use Rattle.scopes.specs.declared.denotation.Denotation.TheVariants as denotes
use Rattle.typed_tree.specs.WellFormed.{is_character}
use Rattle.typing.specs.Passing.{Passing, pure, given, ◌>>=◌}
use Rattle.typing_rules.specs.Checked.{Checked, and_then}
use Rattle.typing.specs.Steps.{add_type, keep_text, value_of}
use Rattle.typing_rules.specs.Checked.{fits, or_mismatch}

-- the characters behind the apostrophe that opens a string, as far as the one that closes it: two apostrophes stand for
-- one; none where that isn't the last byte
abbrev pub characters_behind : List ℕ → Option (List ℕ)
characters_behind [] = None
characters_behind (b ∷ []) = if b == 39 then Some [] else None
characters_behind (b ∷ c ∷ bs) =
    if b == 39 then (if c == 39 then option_map (λ cs. 39 ∷ cs) (characters_behind bs) else None)
    else option_map (λ cs. b ∷ cs) (characters_behind (c ∷ bs))

-- the characters of a string, if these bytes are one
abbrev pub characters : List ℕ → Option (List ℕ)
characters [] = None
characters (b ∷ bs) = if b == 39 then characters_behind bs else None

-- the same, which are one or more, each of type char; K1 at the place where these bytes are no such string
abbrev pub string_characters : Place → List ℕ → Checked (List ℕ)
string_characters place bytes =
    and_then (or_mismatch place (characters bytes))
    (λ cs. fits (not (length cs == 0) && list_all is_character cs) place cs)

-- the type of a string of so many characters, of its own: packed array [1..length] of char (6.4.3.2)
unfoldable pub string_type : Place → ℕ → Passing TypeId
string_type place length = do
  last ← given (value_of length place)
  index ← add_type place (Subrange integer (pos 1) last)
  add_type place (Array true index char)

-- what a constant is, by the characters of its string: one is a constant of type char, more are a string
unfoldable pub string_constant : Place → List ℕ → Passing Denotation
string_constant place (c ∷ []) = pure (denotes.Constant (pos c) char)
string_constant place cs = do
  type_id ← string_type place (length cs)
  number ← keep_text cs
  pure (denotes.Text number type_id)
