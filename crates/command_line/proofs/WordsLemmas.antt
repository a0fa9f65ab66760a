-- What clap answers, as the words of a simple command have it.
use Rattle.std.proofs.Common.{◌≡◌, ◌∙◌, true, List, [], Option, Some, None, ap, subst, option_map, is_some, inl, inr, refl}
use Rattle.std.specs.Prelude.{unwrap_or}
use Rattle.std.specs.Borrow.{Bor}
use Rattle.clap.specs.Words.{App, HasMatchesOf, IsAmong, Text, first_of, first_value, found_of, is_simple, kind_of, matches_of, one_of}
use Rattle.clap.specs.Words.{one_text, rows_of}
use Rattle.clap.specs.Faults.{fault_of, is_simple_and_free}
use Rattle.clap.specs.Kinds.{HasKind}
use Rattle.clap.specs.declared.error.Error.{Error}
use Rattle.clap.specs.declared.error.kind.ErrorKind.{ErrorKind}
use Rattle.clap.specs.declared.error.kind.ErrorKind.TheVariants as kind
use Rattle.clap.specs.declared.parser.matches.ArgMatches.{ArgMatches}
use Rattle.clap.proofs.WalkLemmas.{first_value-rows, one_text-rows}
use Rattle.command_line.specs.Words.{IsWordsFault, words_fault}

-- what a parse found is what the command has on the words
pub record IsTaken (app : App) (words : List Text) (m : ArgMatches) : Type 0 where
  pub faultless : fault_of app words ≡ []
  pub first : (id : Text) → first_value (found_of m) id ≡ first_of id (matches_of app words)
  pub one : (id : Text) → one_text (found_of m) id ≡ one_of id (matches_of app words)

pub taken : (built app : App) (words : List Text) (m : ArgMatches) → built ≡ app → is_simple app ≡ true → is_simple_and_free app ≡ true
    → HasMatchesOf built words m → (is_simple_and_free built ≡ true → fault_of built words ≡ []) → IsTaken app words m
taken built app words m same simple free has faultless =
    let rows : rows_of (found_of m) ≡ matches_of app words = (has (ap is_simple same ∙ simple)).0 ∙ ap (λ a. matches_of a words) same in
    record {
      faultless = subst (λ a. fault_of a words ≡ []) same (faultless (ap is_simple_and_free same ∙ free));
      first = λ id. first_value-rows (found_of m) id ∙ ap (first_of id) rows;
      one = λ id. one_text-rows (found_of m) id ∙ ap (one_of id) rows;
    }

pub refused : (built app : App) (words : List Text) (e : Error) → built ≡ app → is_simple_and_free app ≡ true
    → (is_simple_and_free built ≡ true → HasKind (fault_of built words) e) → IsWordsFault app words (words_fault (kind_of e) e)
refused built app words e same free kinds =
    told (subst (λ a. HasKind (fault_of a words) e) same (kinds (ap is_simple_and_free same ∙ free)))
  where
    by_kind : (k : ErrorKind) → IsAmong (kind_of e) (fault_of app words) → IsWordsFault app words (words_fault k e)
    by_kind kind.OutOfMemory h = tt
    by_kind _ h = h

    told : HasKind (fault_of app words) e → IsWordsFault app words (words_fault (kind_of e) e)
    told (inl no_memory) = rw no_memory tt
    told (inr among) = by_kind (kind_of e) among

-- a text that is there is the one that is taken
pub there : (text : Bor Text) (given : Option (Bor Text)) (otherwise : Bor Text) → text ≡ unwrap_or given otherwise
    → is_some (option_map (λ s. s.now) given) ≡ true → option_map (λ s. s.now) given ≡ Some text.now
there text None otherwise same h = cc
there text (Some s) otherwise same h = rw same refl
