-- Parts with a symbol between each two, as they are read, by what those look like that were read.
use Rattle.std.proofs.Common.{◌≡◌, ◌<◌, length, Result, List, [], ◌∷◌, ◌++◌, Some, None, Ok, Err, map, sym, ap, subst, ◌∙◌}
use Rattle.std.proofs.lemmas.List.{map-append}
use Rattle.memory.specs.Refused.{the_refusal}
use Rattle.place.specs.declared.Place.{Place}
use Rattle.lexer.specs.declared.token.Symbol.{Symbol}
use Rattle.lexer.specs.declared.token.Token.{Token}
use Rattle.reading.specs.declared.refusal.Refusal.{Refusal}
use Rattle.reading.specs.declared.refusal.Refusal.TheVariants.{Memory}
use Rattle.reading.specs.Reading.{Outcome, Reading, separated, symbol_taken}
use Rattle.reading.proofs.Uses.{NeverMore}
use Rattle.token_cursor.specs.declared.cursor.Cursor.{Cursor}
use Rattle.token_cursor.specs.Cursor.{Makes}
use Rattle.token_cursor.proofs.Turns.{Parts, parts_begin, parts_go, parts_end, parts_stop, parts_fewer}
use Rattle.parser.specs.Lists.{LeavesNoMore}
use Rattle.token_cursor.specs.Kept.{Puts}
use Rattle.token_cursor.proofs.Keeping.{WasPut, was_put, not_put}

pub never_more : {A : Type 0} {rule : Reading A} → LeavesNoMore rule → NeverMore rule
never_more h tokens = record { makes = λ made e. record { most = h.no_more tokens made.1 made.0 e } }

-- one more behind others
pub looks_so : {T A : Type 0} (look : T → A) (front new : List T) (x : T) → new ≡ front ++ x ∷ [] → map look front ++ look x ∷ [] ≡ map look new
looks_so look front new x e = sym (ap (map look) e ∙ map-append look front (x ∷ []))

-- none so far
pub listed_begins : {T A : Type 0} (look : T → A) (whole : Outcome (List A)) (front : List T) → front ≡ [] → Parts whole (map look front) whole
listed_begins look whole front e = subst (λ row. Parts whole (map look row) whole) (sym e) (parts_begin whole)

-- a turn of the loop that reads them: what was read, and put behind the others
module _ {T A : Type 0} (look : T → A) (s : Symbol) (part : Reading A) (tokens : List Token) (read : Result T Refusal) (mid : Cursor)
    (front after : List T) (makes : Makes look (part tokens) read mid) where
  made : Puts front read (Ok tt) after → WasPut look (part tokens) mid front after
  made put = was_put look (part tokens) read mid front after makes put

  -- a part more, and the symbol behind it
  pub listed_goes : {whole : Outcome (List A)} → NeverMore part → Parts whole (map look front) (separated s part tokens) → Puts front read (Ok tt) after
      → (place : Place) (rest : List Token) → symbol_taken s mid.rest.now ≡ Ok (Some place, rest) → Parts whole (map look after) (separated s part rest)
  listed_goes {whole} leaves so_far put place rest n =
      let p = made put in
      subst (λ row. Parts whole row (separated s part rest)) (looks_so look front after p.made p.behind)
      (parts_go s part so_far leaves (look p.made) mid.rest.now place rest p.read n)

  -- it took a token
  pub listed_fewer : NeverMore part → Puts front read (Ok tt) after → (place : Place) (rest : List Token)
      → symbol_taken s mid.rest.now ≡ Ok (Some place, rest) → length rest < length tokens
  listed_fewer leaves put place rest n = let p = made put in parts_fewer s part leaves tokens mid.rest.now rest (look p.made) place p.read n

  -- the last part
  pub listed_ends : {whole : Outcome (List A)} → Parts whole (map look front) (separated s part tokens) → Puts front read (Ok tt) after → (rest : List Token)
      → symbol_taken s mid.rest.now ≡ Ok (None, rest) → whole ≡ Ok (map look after, rest)
  listed_ends {whole} so_far put rest n =
      let p = made put in
      parts_end s part so_far (look p.made) mid.rest.now rest p.read n ∙ ap (λ row. Ok (row, rest)) (looks_so look front after p.made p.behind)

  -- a part that stops
  pub listed_stops : {whole : Outcome (List A)} → Parts whole (map look front) (separated s part tokens) → (why : Refusal) → Puts front read (Err why) after
      → (¬ (why ≡ Memory the_refusal)) → whole ≡ Err (why, mid.rest.now)
  listed_stops {whole} so_far why put m = parts_stop s part so_far (why, mid.rest.now) (not_put look (part tokens) read mid front after why makes put m)
