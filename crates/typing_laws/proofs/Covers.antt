-- The sites and the points of a form stand at its places, in their order, and the sites at one place by kind.
use Rattle.std.proofs.Common.{◌≡◌, ℕ, ◌<◌, ◌≤◌, List, [], ◌∷◌, ◌++◌, Option, None, Some, map, append_assoc, append-nil, refl, sym, ap, ap₂, subst, ◌∙◌, arith}
use Rattle.std.specs.List.{flat_map}
use Rattle.std.proofs.lemmas.List.{map-append}
use Rattle.place.specs.declared.Place.{Place}
use Rattle.typed_tree.specs.declared.site.SiteKind.{SiteKind}
use Rattle.typed_tree.specs.Sites.{code_of}
use Rattle.typed_tree.specs.Ids.{Stands}

-- a site, by its kind, or a point, and its place
abbrev pub Stood : Type 0
Stood = Option SiteKind × Place

abbrev pub site_of : Option SiteKind → Place → List Stands
site_of None place = []
site_of (Some kind) place = (kind, place) ∷ []

abbrev pub point_of : Option SiteKind → Place → List Place
point_of None place = place ∷ []
point_of (Some kind) place = []

-- the sites among these, and the points
abbrev pub sites_among : List Stood → List Stands
sites_among added = flat_map (λ one. site_of one.0 one.1) added

abbrev pub points_among : List Stood → List Place
points_among added = flat_map (λ one. point_of one.0 one.1) added

-- kinds by their numbers, all above one
abbrev pub AreAbove : ℕ → List SiteKind → Type 0
AreAbove low [] = Unit {0}
AreAbove low (kind ∷ others) = (low < code_of kind) × AreAbove (code_of kind) others

-- the same of the sites among sites and points
abbrev pub Ascend : ℕ → List (Option SiteKind) → Type 0
Ascend low [] = Unit {0}
Ascend low (None ∷ others) = Ascend low others
Ascend low (Some kind ∷ others) = (low < code_of kind) × Ascend (code_of kind) others

-- sites and points that all stand at one place
abbrev pub group : Place → List (Option SiteKind) → List Stood
group place here = map (λ one. (one, place)) here

-- sites of these kinds, all at one place
abbrev pub at_place : Place → List SiteKind → List Stood
at_place place kinds = map (λ kind. (Some kind, place)) kinds

-- each place has a group of sites and points, which may be empty, at the first place of kinds above a number
abbrev pub Covers : ℕ → List Place → List Stood → Type 0
Covers low [] added = added ≡ []
Covers low (place ∷ places) added =
    (here : List (Option SiteKind)) × (later : List Stood) × (added ≡ group place here ++ later) × Ascend low here × Covers 0 places later

pub covers_none : (low : ℕ) → (places : List Place) → Covers low places []
covers_none low [] = refl
covers_none low (place ∷ places) = ([], [], refl, tt, covers_none 0 places)

-- ---- other bounds of kinds

above_lower : (low lower : ℕ) (here : List (Option SiteKind)) → lower ≤ low → Ascend low here → Ascend lower here
above_lower low lower [] fewer is = tt
above_lower low lower (None ∷ here) fewer is = above_lower low lower here fewer is
above_lower low lower (Some kind ∷ here) fewer is = (omega (arith, fewer, is.0), is.1)

pub covers_lower : (low lower : ℕ) → lower ≤ low → (places : List Place) (sites : List Stood) → Covers low places sites → Covers lower places sites
covers_lower low lower fewer [] sites is = is
covers_lower low lower fewer (place ∷ places) sites c = (c.0, c.1, c.2, above_lower low lower c.0 fewer c.3, c.4)

pub covers_any : (low : ℕ) (places : List Place) (sites : List Stood) → Covers low places sites → Covers 0 places sites
covers_any low places sites is = covers_lower low 0 (omega arith) places sites is

-- ---- several places

pub covers_both : (low : ℕ) → (first second : List Place) (a b : List Stood) → Covers low first a → Covers low second b → Covers low (first ++ second) (a ++ b)
covers_both low [] second a b is more = subst (λ l. Covers low second (l ++ b)) (sym is) more
covers_both low (place ∷ first) second a b c more = (
  c.0,
  c.1 ++ b,
  ap (λ l. l ++ b) c.2 ∙ append_assoc (group place c.0) c.1 b,
  c.3,
  covers_both 0 first second c.1 b c.4 (covers_any low second b more),
)

-- more places, which have no sites
pub covers_more : (low : ℕ) → (places more : List Place) (sites : List Stood) → Covers low places sites → Covers low (places ++ more) sites
covers_more low places more sites is = subst (Covers low (places ++ more)) (append-nil sites) (covers_both low places more sites [] is (covers_none low more))

pub covers_behind : (low : ℕ) → (before places : List Place) (sites : List Stood) → Covers low places sites → Covers low (before ++ places) sites
covers_behind low before places sites is = covers_both low before places [] sites (covers_none low before) is

pub covers_skip : (low : ℕ) → (place : Place) (places : List Place) (sites : List Stood) → Covers low places sites → Covers low (place ∷ places) sites
covers_skip low place places sites is = ([], sites, refl, tt, covers_any low places sites is)

-- sites of these kinds at a place, and then those of other places
abbrev pub Leads : Place → List SiteKind → List Place → List Stood → Type 0
Leads place kinds places sites = (later : List Stood) × (sites ≡ at_place place kinds ++ later) × Covers 0 places later

pub leads_first : (low : ℕ) → (place : Place) (kinds : List SiteKind) (places : List Place) (a b : List Stood) → a ≡ at_place place kinds → Covers low places b
    → Leads place kinds places (a ++ b)
leads_first low place kinds places a b is more = (b, ap (λ l. l ++ b) is, covers_any low places b more)

pub leads_more : (place : Place) (kinds others : List SiteKind) (places : List Place) (a b : List Stood) → a ≡ at_place place kinds
    → Leads place others places b → Leads place (kinds ++ others) places (a ++ b)
leads_more place kinds others places a b is more = (
  more.0,
  ap (λ l. l ++ b) is ∙ ap (λ l. at_place place kinds ++ l) more.1 ∙ sym (append_assoc (at_place place kinds) (at_place place others) more.0)
      ∙ ap (λ l. l ++ more.0) (sym (map-append (λ (kind : SiteKind). (Some kind, place)) kinds others)),
  more.2,
)

ascend_kinds : (low : ℕ) (kinds : List SiteKind) → AreAbove low kinds → Ascend low (map Some kinds)
ascend_kinds low [] is = tt
ascend_kinds low (kind ∷ kinds) is = (is.0, ascend_kinds (code_of kind) kinds is.1)

grouped : (place : Place) (kinds : List SiteKind) → at_place place kinds ≡ group place (map Some kinds)
grouped place [] = refl
grouped place (kind ∷ kinds) = ap (λ l. (Some kind, place) ∷ l) (grouped place kinds)

pub leads_covers : (low : ℕ) → (place : Place) (kinds : List SiteKind) (places : List Place) (sites : List Stood) → AreAbove low kinds
    → Leads place kinds places sites → Covers low (place ∷ places) sites
leads_covers low place kinds places sites ascending more =
    (map Some kinds, more.0, more.1 ∙ ap (λ l. l ++ more.0) (grouped place kinds), ascend_kinds low kinds ascending, more.2)

-- a site before those of a first place, of a lower kind
pub covers_ahead : (low : ℕ) (kind : SiteKind) → low < code_of kind → (place : Place) (places : List Place) (sites : List Stood)
    → Covers (code_of kind) (place ∷ places) sites → Covers low (place ∷ places) ((Some kind, place) ∷ sites)
covers_ahead low kind is place places sites c = (
  Some kind ∷ c.0,
  c.1,
  ap (λ l. (Some kind, place) ∷ l) c.2,
  (is, c.3),
  c.4,
)

-- ---- points

abbrev pub ArePoints : List (Option SiteKind) → Type 0
ArePoints [] = Unit {0}
ArePoints (None ∷ here) = ArePoints here
ArePoints (Some kind ∷ here) = ⊥

-- points alone, all at one place
abbrev pub ArePointsAt : Place → List Stood → Type 0
ArePointsAt place added = (here : List (Option SiteKind)) × ArePoints here × (added ≡ group place here)

pub no_point : (place : Place) (added : List Stood) → added ≡ [] → ArePointsAt place added
no_point place added is = ([], tt, is)

pub one_point : (place : Place) (added : List Stood) → added ≡ (None, place) ∷ [] → ArePointsAt place added
one_point place added is = (None ∷ [], tt, is)

-- points stand behind sites of any kinds
points_behind : (low : ℕ) (kinds : List SiteKind) (here : List (Option SiteKind)) → AreAbove low kinds → ArePoints here
    → Ascend low (map Some kinds ++ here)
points_behind low [] [] is points = tt
points_behind low [] (None ∷ here) is points = points_behind low [] here tt points
points_behind low [] (Some kind ∷ here) is points = absurd points
points_behind low (kind ∷ kinds) here is points = (is.0, points_behind (code_of kind) kinds here is.1 points)

-- points at a first place, and then what later places have
pub points_first : (low : ℕ) (place : Place) (places : List Place) (a b : List Stood) → ArePointsAt place a → Covers 0 places b
    → Covers low (place ∷ places) (a ++ b)
points_first low place places a b points more = (points.0, b, ap (λ l. l ++ b) points.2, points_behind low [] points.0 tt points.1, more)

-- points behind the sites of one place
pub points_last : (low : ℕ) (place : Place) (kinds : List SiteKind) → AreAbove low kinds → (a b : List Stood) → a ≡ at_place place kinds
    → ArePointsAt place b → Covers low (place ∷ []) (a ++ b)
points_last low place kinds ascending a b is points = (
  map Some kinds ++ points.0,
  [],
  ap₂ (λ l m. l ++ m) (is ∙ grouped place kinds) points.2 ∙ sym (map-append (λ (one : Option SiteKind). (one, place)) (map Some kinds) points.0)
      ∙ sym (append-nil (group place (map Some kinds ++ points.0))),
  points_behind low kinds points.0 ascending points.1,
  refl,
)
