-- The shapes of what a text is made of, each of a whole row of bytes: separators (ISO 7185:1990, 6.1.8),
-- identifiers and word symbols (6.1.2, 6.1.3), digits (6.1.5), character strings (6.1.7), special symbols.
-- This doesn't say which values a number may have, which characters a string, nor where a shape stands.
use Rattle.std.specs.Prelude.{◌≡◌, ℕ, ◌⊎◌, List, [], ◌∷◌, ◌++◌, length, drop, Bool, true, false, not, ◌==◌, ◌||◌, ◌&&◌}
use Rattle.std.specs.Prelude.{nat_eq, Option, Some, None, codes, if◌then◌else◌}
use Rattle.std.specs.Option.{option_map}
use Rattle.std.specs.List.{list_all, starts_with}
use Rattle.std.specs.Char.{is_ascii_digit, is_ascii_alphabetic, is_ascii_alphanumeric}
use Rattle.lexer.specs.declared.token.Symbol.{Symbol}
use Rattle.lexer.specs.Spelling.{symbol_of}

pub data Shape : Type 0 where
  Separator : Shape
  -- a letter, and then letters and digits
  Letters : Shape
  Digits : Shape
  -- what stands between apostrophes on one line
  Quoted : Shape
  Mark : Symbol → Shape

-- the text begins with these characters
abbrev pub begins : List ℕ → List ℕ → Bool
begins characters text = starts_with nat_eq text characters

-- a byte that is a blank or a line end
abbrev pub is_blank_byte : ℕ → Bool
is_blank_byte b = b == 9 || b == 10 || b == 13 || b == 32

-- a blank or a line end
abbrev pub is_blank : List ℕ → Bool
is_blank [] = false
is_blank (b ∷ bs) = (length bs == 0) && is_blank_byte b

-- a comment opens here
abbrev pub opens_comment : List ℕ → Bool
opens_comment text = begins (codes "{") text || begins (codes "(*") text

-- a comment opens here with a mark of so many bytes
abbrev pub Opens : List ℕ → ℕ → Type 0
Opens text opening =
    ((opening ≡ 1) × (begins (codes "{") text ≡ true)) ⊎ ((opening ≡ 2) × (begins (codes "(*") text ≡ true))

-- the first closing mark in these bytes is their end
abbrev pub ends_comment : List ℕ → Bool
ends_comment [] = false
ends_comment (b ∷ bs) =
    if begins (codes "}") (b ∷ bs) then length bs == 0
    else (if begins (codes "*)") (b ∷ bs) then length bs == 1
    else ends_comment bs)

-- an opening mark of a comment, and then bytes whose first closing mark is their end: either mark closes either
abbrev pub is_comment : List ℕ → Bool
is_comment bytes =
    (begins (codes "{") bytes && ends_comment (drop 1 bytes))
    || (begins (codes "(*") bytes && ends_comment (drop 2 bytes))

abbrev pub is_letters : List ℕ → Bool
is_letters [] = false
is_letters (b ∷ bs) = is_ascii_alphabetic b && list_all is_ascii_alphanumeric bs

abbrev pub is_digits : List ℕ → Bool
is_digits [] = false
is_digits (b ∷ bs) = list_all is_ascii_digit (b ∷ bs)

-- bytes of one line, each apostrophe among them twice, and then one apostrophe
abbrev pub ends_string : List ℕ → Bool
ends_string [] = false
ends_string (b ∷ []) = b == 39
ends_string (b ∷ c ∷ bs) = if b == 39 then (c == 39) && ends_string bs else not (b == 10) && ends_string (c ∷ bs)

abbrev pub is_quoted : List ℕ → Bool
is_quoted [] = false
is_quoted (b ∷ bs) = (b == 39) && ends_string bs

-- The shape of bytes, of which others stand behind. Where a comment opens, no token begins. An apostrophe that
-- closes a string has none behind it, since two would stand for one.
unfoldable pub shape_of : List ℕ → List ℕ → Option Shape
shape_of bytes behind =
    if is_blank bytes || is_comment bytes then Some Separator
    else (if opens_comment (bytes ++ behind) then None
    else (if is_letters bytes then Some Letters
    else (if is_digits bytes then Some Digits
    else (if is_quoted bytes && not (begins (codes "'") behind) then Some Quoted
    else option_map Mark (symbol_of bytes)))))
