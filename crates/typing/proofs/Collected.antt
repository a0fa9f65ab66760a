-- Forms that are typed one after another, whose answers are gathered in a list: what goes on from the ones that are passed.
use Rattle.std.proofs.Common.{◌≡◌, ℕ, ◌+◌, ◌<◌, ◌≤◌, List, [], ◌∷◌, ◌++◌, length, drop, get_or, Ok, Err, inl, inr, sym, ap, refl, ◌∙◌, append-nil}
use Rattle.std.proofs.Common.{append_assoc}
use Rattle.std.proofs.lemmas.List.{drop_more, at_drop_all}
use Rattle.typed_tree.specs.declared.fault.TypeFault.{TypeFault}
use Rattle.typed_tree.specs.Look.{Look}
use Rattle.typing.specs.Passing.{Passed, After, Passing, after, behind_marks, pure, ◌>>=◌}
use Rattle.typing_rules.specs.Checked.{Checked, and_then}
use Rattle.typing.specs.Outcomes.{IsFault}

module _ {B : Type 0} where
  -- these stand before what is gathered
  abbrev pub before : List B → Look → Checked (After (List B)) → Checked (After (List B))
  before done look outcome = and_then outcome (λ a. Ok (after (done ++ a.answer) (look ++ a.look) a.passed))

  -- nothing does
  pub before_none : (outcome : Checked (After (List B))) → outcome ≡ before [] [] outcome
  before_none (Ok a) = refl
  before_none (Err why) = refl

  -- these, and more behind them
  pub before_more : (done more : List B) (look other : Look) (outcome : Checked (After (List B)))
      → before done look (behind_marks other (and_then outcome (λ a. behind_marks a.look (Ok (after (more ++ a.answer) [] a.passed)))))
      ≡ before (done ++ more) (look ++ other) outcome
  before_more done more look other (Ok a) =
      ap (λ l. Ok (after (done ++ (more ++ a.answer)) (look ++ (other ++ l)) a.passed)) (append-nil a.look)
      ∙ ap (λ l. Ok (after l (look ++ (other ++ a.look)) a.passed)) (sym (append_assoc done more a.answer))
      ∙ ap (λ l. Ok (after ((done ++ more) ++ a.answer) l a.passed)) (sym (append_assoc look other a.look))
  before_more done more look other (Err why) = refl

-- forms whose answers are gathered: of each what it adds
module _ {A B C : Type 0} (step : A → Passing C) (adds : C → List B) (all : List A → Passing (List B))
    (none : (s : Passed) → all [] s ≡ Ok (after [] [] s))
    (more : (x : A) (xs : List A) (s : Passed) → all (x ∷ xs) s ≡ (step x >>= (λ c. all xs >>= (λ bs. pure (adds c ++ bs)))) s)
    (forms : List A) (old : Passed) where
  -- what is left, once some are passed
  abbrev pub AreFrom : ℕ → List B → Look → Passed → Type 0
  AreFrom i done look now = all forms old ≡ before done look (all (drop i forms) now)

  -- none is passed yet
  pub gather_begins : AreFrom 0 [] [] old
  gather_begins = before_none (all forms old)

  module _ (i : ℕ) (form : A) (done : List B) (look : Look) (now : Passed) (within : i < length forms) (is : form ≡ get_or forms i form)
      (left : AreFrom i done look now) where
    abbrev behind_one : Checked (After C) → Checked (After (List B))
    behind_one outcome =
        before done look (and_then outcome (λ a. behind_marks a.look ((all (drop (i + 1) forms) >>= (λ bs. pure (adds a.answer ++ bs))) a.passed)))

    goes : all forms old ≡ behind_one (step form now)
    goes =
        left
        ∙ ap (λ fs. before done look (all fs now)) (drop_more forms i form within)
        ∙ ap (λ f. before done look (all (f ∷ drop (i + 1) forms) now)) (sym is)
        ∙ ap (before done look) (more form (drop (i + 1) forms) now)

    -- the next one is passed
    pub gather_next : (c : C) (other : Look) (new : Passed) → step form now ≡ Ok (after c other new)
        → AreFrom (i + 1) (done ++ adds c) (look ++ other) new
    gather_next c other new passes = goes ∙ ap behind_one passes ∙ before_more done (adds c) look other (all (drop (i + 1) forms) new)

    -- it stops
    pub gather_stops : (why : TypeFault) → IsFault (step form now) why → IsFault (all forms old) why
    gather_stops why (inl memory) = inl memory
    gather_stops why (inr stops) = inr (goes ∙ ap behind_one stops)

  -- all are passed
  pub gather_ends : (i : ℕ) (done : List B) (look : Look) (now : Passed) → length forms ≤ i → AreFrom i done look now
      → all forms old ≡ Ok (after done look now)
  gather_ends i done look now past left =
      left ∙ at_drop_all (λ fs. before done look (all fs now)) forms i past
      ∙ ap (before done look) (none now)
      ∙ ap (λ l. Ok (after l (look ++ []) now)) (append-nil done)
      ∙ ap (λ l. Ok (after done l now)) (append-nil look)
