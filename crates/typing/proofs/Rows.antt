-- Rows of sites, and of forms that are typed one after another: what the steps of typing need, and what goes on from them.
use Rattle.std.proofs.Common.{◌≡◌, ℕ, ◌+◌, ◌<◌, ◌≤◌, List, [], ◌∷◌, ◌++◌, map, length, drop, get_or, Ok, Err, inl, inr, sym, ap, refl, ◌∙◌, append-nil}
use Rattle.std.proofs.Common.{append_assoc}
use Rattle.std.proofs.lemmas.List.{map-append, length-map, drop_more, at_drop_all}
use Rattle.typed_tree.specs.declared.fault.TypeFault.{TypeFault}
use Rattle.typed_tree.specs.declared.site.Point.{Point}
use Rattle.typed_tree.specs.declared.site.Site.{Site}
use Rattle.typed_tree.specs.Look.{Look}
use Rattle.typing.specs.Sound.{stands}
use Rattle.typing.specs.Passing.{Passed, After, Passing, after, behind_marks, each, ◌>>=◌}
use Rattle.typing_rules.specs.Checked.{Checked, and_then}
use Rattle.typing.specs.Outcomes.{IsFault}

-- one site more
pub site_added : (sites : List Site) (site : Site) → map stands (sites ++ site ∷ []) ≡ map stands sites ++ stands site ∷ []
site_added sites site = map-append stands sites (site ∷ [])

-- as many are told as there are
pub sites_counted : (sites : List Site) → length (map stands sites) ≡ length sites
sites_counted sites = length-map sites stands

-- the same of points
pub point_added : (points : List Point) (point : Point) → map (λ p. p.place) (points ++ point ∷ []) ≡ map (λ p. p.place) points ++ point.place ∷ []
point_added points point = map-append (λ (p : Point). p.place) points (point ∷ [])

pub points_counted : (points : List Point) → length (map (λ p. p.place) points) ≡ length points
points_counted points = length-map points (λ (p : Point). p.place)

module _ {A : Type 0} where
  -- nothing before
  pub behind_nothing : (outcome : Checked (After A)) → behind_marks [] outcome ≡ outcome
  behind_nothing (Ok a) = refl
  behind_nothing (Err why) = refl

  -- marks before, and marks before those
  pub behind_both : (first second : Look) (outcome : Checked (After A))
      → behind_marks first (behind_marks second outcome) ≡ behind_marks (first ++ second) outcome
  behind_both first second (Ok a) = ap (λ look. Ok (after a.answer look a.passed)) (sym (append_assoc first second a.look))
  behind_both first second (Err why) = refl

  -- a fault stays one
  pub behind_fault : (look : Look) (outcome : Checked (After A)) (why : TypeFault) → IsFault outcome why → IsFault (behind_marks look outcome) why
  behind_fault look outcome why (inl memory) = inl memory
  behind_fault look outcome why (inr is) = inr (ap (behind_marks look) is)

-- forms that are passed one after another, of which the first ones look like this
module _ {A : Type 0} (step : A → Passing (Unit {0})) (forms : List A) (old : Passed) where
  -- what is left, once some are passed
  abbrev pub IsLeftFrom : ℕ → Look → Passed → Type 0
  IsLeftFrom i done now = each step forms old ≡ behind_marks done (each step (drop i forms) now)

  -- none is passed yet
  pub each_begins : IsLeftFrom 0 [] old
  each_begins = sym (behind_nothing (each step forms old))

  -- the next one is passed
  pub each_next : (i : ℕ) (form : A) (done look : Look) (now new : Passed) → i < length forms → form ≡ get_or forms i form
      → IsLeftFrom i done now → step form now ≡ Ok (after tt look new) → IsLeftFrom (i + 1) (done ++ look) new
  each_next i form done look now new within is left passes =
      left
      ∙ ap (λ fs. behind_marks done (each step fs now)) (drop_more forms i form within)
      ∙ ap (λ f. behind_marks done (each step (f ∷ drop (i + 1) forms) now)) (sym is)
      ∙ ap (λ r. behind_marks done (and_then r (λ a. behind_marks a.look (each step (drop (i + 1) forms) a.passed)))) passes
      ∙ behind_both done look (each step (drop (i + 1) forms) new)

  -- the next one stops
  pub each_stops : (i : ℕ) (form : A) (done : Look) (now : Passed) (why : TypeFault) → i < length forms → form ≡ get_or forms i form
      → IsLeftFrom i done now → IsFault (step form now) why → IsFault (each step forms old) why
  each_stops i form done now why within is left (inl memory) = inl memory
  each_stops i form done now why within is left (inr stops) = inr (
      left
      ∙ ap (λ fs. behind_marks done (each step fs now)) (drop_more forms i form within)
      ∙ ap (λ f. behind_marks done (each step (f ∷ drop (i + 1) forms) now)) (sym is)
      ∙ ap (λ r. behind_marks done (and_then r (λ a. behind_marks a.look (each step (drop (i + 1) forms) a.passed)))) stops)

  -- all are passed
  pub each_ends : (i : ℕ) (done : Look) (now : Passed) → length forms ≤ i → IsLeftFrom i done now → each step forms old ≡ Ok (after tt done now)
  each_ends i done now all left =
      left ∙ at_drop_all (λ fs. behind_marks done (each step fs now)) forms i all ∙ ap (λ look. Ok (after tt look now)) (append-nil done)

-- what comes behind two steps comes behind the second
pub then_assoc : {A B C : Type 0} (first : Passing A) (second : A → Passing B) (third : B → Passing C) (s : Passed)
    → ((first >>= second) >>= third) s ≡ (first >>= (λ a. second a >>= third)) s
then_assoc {A} {B} {C} first second third s = by (first s)
  where
    inner : (look : Look) (outcome : Checked (After B))
        → and_then (behind_marks look outcome) (λ b. behind_marks b.look (third b.answer b.passed))
        ≡ behind_marks look (and_then outcome (λ b. behind_marks b.look (third b.answer b.passed)))
    inner look (Err why) = refl
    inner look (Ok b) = sym (behind_both look b.look (third b.answer b.passed))

    by : (outcome : Checked (After A))
        → and_then (and_then outcome (λ a. behind_marks a.look (second a.answer a.passed))) (λ b. behind_marks b.look (third b.answer b.passed))
        ≡ and_then outcome (λ a. behind_marks a.look (and_then (second a.answer a.passed) (λ b. behind_marks b.look (third b.answer b.passed))))
    by (Err why) = refl
    by (Ok a) = inner a.look (second a.answer a.passed)

pub ruleset one_site_more = (site_added, sites_counted)

pub ruleset one_point_more = (point_added, points_counted)
