-- A site, or a point, that takes the next id keeps the ids in order.
use Rattle.std.proofs.Common.{◌≡◌, ℕ, ◌+◌, List, [], ◌∷◌, ◌++◌, length, map, Bool, true, false, cond, sym, ◌∙◌, ap, refl, arith}
use Rattle.std.specs.List.{range_with_len}
use Rattle.std.proofs.lemmas.List.{map-append}
use Rattle.std.proofs.lemmas.List.FromFn.{map-range_with_len_more}
use Rattle.std.proofs.Common.{length-append}
use Rattle.typed_tree.specs.declared.site.Point.{Point}
use Rattle.typed_tree.specs.declared.site.Site.{Site}
use Rattle.typed_tree.specs.Ids.{AreInOrder, ArePointsInOrder}

map_same : (xs : List ℕ) → map (λ x. x) xs ≡ xs
map_same [] = refl
map_same (x ∷ xs) = ap (λ l. x ∷ l) (map_same xs)

range_more : (n : ℕ) → range_with_len 0 (n + 1) ≡ range_with_len 0 n ++ n ∷ []
range_more n =
    sym (map_same (range_with_len 0 (n + 1))) ∙ map-range_with_len_more (λ x. x) 0 n n (omega arith) ∙ ap (λ l. l ++ n ∷ []) (map_same (range_with_len 0 n))

pub in_order_push : {A : Type 0} (id_of : A → ℕ) (ones : List A) (one : A) → map id_of ones ≡ range_with_len 0 (length ones) → id_of one ≡ length ones
    → map id_of (ones ++ one ∷ []) ≡ range_with_len 0 (length (ones ++ one ∷ []))
in_order_push id_of ones one before is =
    map-append id_of ones (one ∷ [])
    ∙ ap (λ l. l ++ id_of one ∷ []) before
    ∙ ap (λ n. range_with_len 0 (length ones) ++ n ∷ []) is
    ∙ sym (range_more (length ones))
    ∙ ap (range_with_len 0) (sym (length-append ones (one ∷ [])))

pub site_ids_kept : (pushed : Bool) (sites : List Site) (site : Site) → AreInOrder sites → site.id ≡ length sites
    → AreInOrder (cond pushed (sites ++ site ∷ []) sites)
site_ids_kept true sites site before is = in_order_push (λ (s : Site). s.id) sites site before is
site_ids_kept false sites site before is = before

pub point_ids_kept : (pushed : Bool) (points : List Point) (point : Point) → ArePointsInOrder points → point.id ≡ length points
    → ArePointsInOrder (cond pushed (points ++ point ∷ []) points)
point_ids_kept true points point before is = in_order_push (λ (p : Point). p.id) points point before is
point_ids_kept false points point before is = before
