-- Each site and each point of a form stands at one of its places.
use Rattle.std.proofs.Common.{◌≡◌, ◌⊎◌, inl, inr, ℕ, zero, suc, ◌<◌, List, [], ◌∷◌, ◌++◌, Option, None, Some, length, slice_index_or}
use Rattle.std.proofs.Common.{Contains, refl, sym, subst, arith}
use Rattle.place.specs.declared.Place.{Place}
use Rattle.typed_tree.specs.declared.site.SiteKind.{SiteKind}
use Rattle.typed_tree.specs.Ids.{Stands}
use Rattle.typing_laws.proofs.Covers.{Covers, Stood, group, points_among, sites_among}

-- ---- elements of a list

parts_at : {A : Type 0} (x y : A) (xs : List A) (k : ℕ) → k < length (x ∷ xs) → slice_index_or (x ∷ xs) k y ≡ y → (x ≡ y) ⊎ Contains xs y
parts_at x y xs zero within is = inl is
parts_at x y xs (suc k) within is = inr (k, omega (arith, within), is)

parts_of : {A : Type 0} (x y : A) (xs : List A) → Contains (x ∷ xs) y → (x ≡ y) ⊎ Contains xs y
parts_of x y xs has = parts_at x y xs has.0 has.1 has.2

later : {A : Type 0} (x y : A) (xs : List A) → Contains xs y → Contains (x ∷ xs) y
later x y xs has = (suc has.0, omega (arith, has.1), has.2)

first : {A : Type 0} (x : A) (xs : List A) → Contains (x ∷ xs) x
first x xs = (0, omega arith, refl)

-- ---- those of a form

abbrev AreSitesAt : List Place → List Stood → Type 0
AreSitesAt places added = (site : Stands) → Contains (sites_among added) site → Contains places site.1

abbrev ArePointsAt : List Place → List Stood → Type 0
ArePointsAt places added = (point : Place) → Contains (points_among added) point → Contains places point

sites_here : (place : Place) (places : List Place) (here : List (Option SiteKind)) (more : List Stood) → AreSitesAt (place ∷ places) more
    → AreSitesAt (place ∷ places) (group place here ++ more)
sites_here place places [] more all = all
sites_here place places (None ∷ here) more all = sites_here place places here more all
sites_here place places (Some kind ∷ here) more all = λ site has.
    by site (parts_of (kind, place) site (sites_among (group place here ++ more)) has) (sites_here place places here more all)
  where
    by : (site : Stands) → ((kind, place) ≡ site) ⊎ Contains (sites_among (group place here ++ more)) site
        → AreSitesAt (place ∷ places) (group place here ++ more) → Contains (place ∷ places) site.1
    by site (inl same) others = subst (λ (one : Stands). Contains (place ∷ places) one.1) same (first place places)
    by site (inr has) others = others site has

points_here : (place : Place) (places : List Place) (here : List (Option SiteKind)) (more : List Stood) → ArePointsAt (place ∷ places) more
    → ArePointsAt (place ∷ places) (group place here ++ more)
points_here place places [] more all = all
points_here place places (None ∷ here) more all = λ point has.
    by point (parts_of place point (points_among (group place here ++ more)) has) (points_here place places here more all)
  where
    by : (point : Place) → (place ≡ point) ⊎ Contains (points_among (group place here ++ more)) point
        → ArePointsAt (place ∷ places) (group place here ++ more) → Contains (place ∷ places) point
    by point (inl same) others = subst (Contains (place ∷ places)) same (first place places)
    by point (inr has) others = others point has
points_here place places (Some kind ∷ here) more all = points_here place places here more all

pub sites_at : (places : List Place) (added : List Stood) → Covers 0 places added → AreSitesAt places added
sites_at [] added none = subst (AreSitesAt []) (sym none) (λ site has. absurd (omega (arith, has.1)))
sites_at (place ∷ places) added c =
    subst (AreSitesAt (place ∷ places)) (sym c.2)
    (sites_here place places c.0 c.1 (λ site has. later place site.1 places (sites_at places c.1 c.4 site has)))

pub points_at : (places : List Place) (added : List Stood) → Covers 0 places added → ArePointsAt places added
points_at [] added none = subst (ArePointsAt []) (sym none) (λ point has. absurd (omega (arith, has.1)))
points_at (place ∷ places) added c =
    subst (ArePointsAt (place ∷ places)) (sym c.2)
    (points_here place places c.0 c.1 (λ point has. later place point places (points_at places c.1 c.4 point has)))
