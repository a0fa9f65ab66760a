-- The faults of a list of tokens, P1 to P3: their numbers, their places, and which one a refusal is.
-- This doesn't say which list has which fault.
use Rattle.std.specs.Prelude.{ℕ, ◌+◌, ◌-◌, ◌^◌, min, List, length, Option, Some, None, slice_get}
use Rattle.memory.specs.Refused.{the_refusal}
use Rattle.place.specs.declared.Place.{Place}
use Rattle.place.specs.Place.{start}
use Rattle.lexer.specs.declared.token.Token.{Token}
use Rattle.token_cursor.specs.declared.fault.ParseFault.{ParseFault}
use Rattle.token_cursor.specs.declared.fault.ParseFault.TheVariants.{Memory, NoProgram, TooDeep, LeftOut}
use Rattle.reading.specs.declared.refusal.Refusal.{Refusal}
use Rattle.reading.specs.declared.refusal.Refusal.TheVariants as refusal

-- the number of a fault behind the letter P, and 0 for want of memory
abbrev pub code_of : ParseFault → ℕ
code_of (Memory _) = 0
code_of (NoProgram p) = 1
code_of (TooDeep p) = 2
code_of (LeftOut p) = 3

-- where a fault stands in the text
abbrev pub place_of_fault : ParseFault → Option Place
place_of_fault (Memory _) = None
place_of_fault (NoProgram p) = Some p
place_of_fault (TooDeep p) = Some p
place_of_fault (LeftOut p) = Some p

-- just past a token, on its line, the column held at 2^32 - 1
abbrev pub past_token : Token → Place
past_token token =
    record { line = token.place.line; column = min (token.place.column + length token.text.now) (2 ^ 32 - 1) }

-- just past the last token, or where a text begins if there is none
abbrev pub end_of : List Token → Place
end_of tokens =
    elim (slice_get tokens (length tokens - 1)) as (λ _. Place) [ None ↦ start | Some token ↦ past_token token ]

-- where the token of a number stands, or the end where there is none
abbrev pub place_at : List Token → ℕ → Place
place_at tokens number =
    elim (slice_get tokens number) as (λ _. Place) [ None ↦ end_of tokens | Some token ↦ token.place ]

-- a place, or the end where there is none
abbrev pub place_or_end : List Token → Option Place → Place
place_or_end tokens None = end_of tokens
place_or_end tokens (Some place) = place

-- the fault that a refusal is of tokens, of which so many are left
abbrev pub fault_of : List Token → ℕ → Refusal → ParseFault
fault_of tokens left (refusal.Memory _) = Memory the_refusal
fault_of tokens left refusal.NoProgram = NoProgram (place_at tokens (length tokens - left))
fault_of tokens left (refusal.TooDeep at) = TooDeep (place_or_end tokens at)
