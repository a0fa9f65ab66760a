-- The variables that are listed in a pair with each, by the blocks that declare them: what one pair more adds.
use Rattle.std.proofs.Common.{arith, ◌≡◌, ◌≢◌, ◌∙◌, sym, ap, ap₂, refl, ℕ, ◌+◌, ◌<◌, Bool, true, false, cond, ◌&&◌, nat_eq, List, [], ◌∷◌, ◌++◌}
use Rattle.std.proofs.Common.{Option, Some, None, Result, Ok, Err, append-nil, append_assoc, get_or, length, take}
use Rattle.std.specs.Prelude.{IfOk, filter, flat_map, slice_get}
use Rattle.std.specs.Result.{is_ok}
use Rattle.std.specs.BTreeMap.{get, is_at}
use Rattle.std.specs.Global.{Vec}
use Rattle.std.specs.Map.{lookup}
use Rattle.std.specs.Ordering.{is_eq, nat_cmp, ordering_then}
use Rattle.std.specs.declared.cmp.Ordering.{Ordering}
use Rattle.std.specs.declared.cmp.Ordering.TheVariants.{Less, Equal, Greater}
use Rattle.std.proofs.lemmas.Bool.{and_parts, eqb-true}
use Rattle.std.proofs.lemmas.Cmp.{by_ranked, ranked}
use Rattle.std.proofs.lemmas.Int.{ints}
use Rattle.std.proofs.lemmas.List.{flat_map_more}
use Rattle.std.proofs.lemmas.List.Elements.{filter-append}
use Rattle.certificate.specs.declared.AliasPair.{AliasPair}
use Rattle.typed_tree.specs.declared.tree.Block.{Block}
use Rattle.typed_tree.specs.declared.tree.Tree.{Tree}
use Rattle.typed_tree.specs.declared.tree.Variable.{Variable}
use Rattle.typed_tree.specs.WellFormed.{of_one}
use Rattle.checker_loops.specs.Pairs.{Listed, aliases_in, aliases_of, blocks_round, blocks_seen, declared_aliases, declares, partner}
use Rattle.checker_loops.specs.View.{AreByBlock, HasAt, HasPartner, HaveEnteredByBlock, Table, kept_row, key_cmp, listed_of, row_at, said_pair, said_pairs}
use Rattle.checker_loops.proofs.Partners.{aliases-more, both-cases, one-case}

-- ---- keys

both_equal : (first second : Ordering) → is_eq (ordering_then first second) ≡ (is_eq first && is_eq second)
both_equal Less second = refl
both_equal Equal second = refl
both_equal Greater second = refl

same_number : (a b : ℕ) → is_eq (nat_cmp a b) ≡ nat_eq a b
same_number a b =
    by_ranked (a < b) (a ≡ b) (b < a) (nat_cmp a b) (ranked a b (nat_cmp a b) refl)
    (λ is less. let no : nat_eq a b ≡ false = grind (arith, ints) in ap is_eq is ∙ sym no)
    (λ is same. let yes : nat_eq a b ≡ true = grind (arith, ints) in ap is_eq is ∙ sym yes)
    (λ is greater. let no : nat_eq a b ≡ false = grind (arith, ints) in ap is_eq is ∙ sym no)

same_key : (key : ℕ × ℕ) (root number : ℕ) → is_at (key_cmp key) (root, number) ≡ (nat_eq key.0 root && nat_eq key.1 number)
same_key key root number =
    both_equal (nat_cmp key.0 root) (nat_cmp key.1 number)
    ∙ ap₂ (λ one other. one && other) (same_number key.0 root) (same_number key.1 number)

-- ---- one more at a key

at-key : (old mid new : Table) (key : ℕ × ℕ) (other : ℕ) (row : Vec ℕ) (root number : ℕ) (here : Bool) → (nat_eq key.0 root && nat_eq key.1 number) ≡ here
    → get key_cmp mid (root, number) ≡ cond here None (get key_cmp old (root, number))
    → get key_cmp new (root, number) ≡ cond here (Some row) (get key_cmp mid (root, number))
    → row.items ≡ row_at old key.0 key.1 ++ other ∷ []
    → row_at new root number ≡ row_at old root number ++ cond here (other ∷ []) []
at-key old mid new key other row root number true is taken put whole =
    let same = and_parts (nat_eq key.0 root) (nat_eq key.1 number) is in
    ap kept_row put ∙ whole
    ∙ ap₂ (λ r n. row_at old r n ++ other ∷ []) (eqb-true key.0 root same.0) (eqb-true key.1 number same.1)
at-key old mid new key other row root number false is taken put whole =
    ap kept_row (put ∙ taken) ∙ sym (append-nil (row_at old root number))

pub has-at : (old mid new : Table) (key : ℕ × ℕ) (other : ℕ) (row : Vec ℕ)
    → ((q : ℕ × ℕ) → get key_cmp mid q ≡ cond (is_at (key_cmp key) q) None (get key_cmp old q))
    → ((q : ℕ × ℕ) → get key_cmp new q ≡ cond (is_at (key_cmp key) q) (Some row) (get key_cmp mid q))
    → row.items ≡ row_at old key.0 key.1 ++ other ∷ [] → HasAt key other old new
has-at old mid new key other row taken put whole = λ root number.
    let same = same_key key root number in
    at-key old mid new key other row root number (nat_eq key.0 root && nat_eq key.1 number) refl
    (taken (root, number) ∙ ap (λ here. cond here None (get key_cmp old (root, number))) same)
    (put (root, number) ∙ ap (λ here. cond here (Some row) (get key_cmp mid (root, number))) same) whole

-- ---- at the block of a variable

at-block : (tree : Tree) (other number : ℕ) (variable : Variable) (same : Bool) → slice_get tree.variables.items other ≡ Some variable
    → cond (same && nat_eq variable.block number) (other ∷ []) [] ≡ filter (declares tree number) (cond same (other ∷ []) [])
at-block tree other number variable false is = refl
at-block tree other number variable true is =
    ap (λ (found : Option Variable). cond (of_one (λ v. nat_eq v.block number) found) (other ∷ []) []) (sym is)

pub has-partner : (tree : Tree) (row other : ℕ) (variable : Variable) (old new : Table) → slice_get tree.variables.items other ≡ Some variable
    → HasAt (row, variable.block) other old new → HasPartner tree row other old new
has-partner tree row other variable old new is at = λ root number.
    at root number ∙ ap (λ more. row_at old root number ++ more) (at-block tree other number variable (nat_eq row root) is)

nowhere : (tree : Tree) (other number : ℕ) (same : Bool) → slice_get tree.variables.items other ≡ None
    → [] ≡ filter (declares tree number) (cond same (other ∷ []) [])
nowhere tree other number false is = refl
nowhere tree other number true is =
    ap (λ (found : Option Variable). cond (of_one (λ v. nat_eq v.block number) found) (other ∷ []) []) (sym is)

-- a variable that isn't there is declared by no block
pub no-partner : (tree : Tree) (row other : ℕ) (old : Table) → slice_get tree.variables.items other ≡ None → HasPartner tree row other old old
no-partner tree row other old is = λ root number.
    sym (append-nil (row_at old root number)) ∙ ap (λ more. row_at old root number ++ more) (nowhere tree other number (nat_eq row root) is)

-- ---- pairs

-- a pair of two variables is entered at both
pub entered-both-blocks : (tree : Tree) (pair : AliasPair) (old once new : Table) → pair.first ≢ pair.second
    → HasPartner tree pair.first pair.second old once → HasPartner tree pair.second pair.first once new → HaveEnteredByBlock tree pair old new
entered-both-blocks tree pair old once new apart one other = λ root number.
    let test = declares tree number in
    let first = cond (nat_eq pair.first root) (pair.second ∷ []) [] in
    let second = cond (nat_eq pair.second root) (pair.first ∷ []) [] in
    other root number ∙ ap (λ row. row ++ filter test second) (one root number)
    ∙ append_assoc (row_at old root number) (filter test first) (filter test second)
    ∙ ap (λ more. row_at old root number ++ more)
    (sym (filter-append test first second)
    ∙ ap (filter test) (both-cases pair.first pair.second root (nat_eq pair.first root) (nat_eq pair.second root) refl refl apart))

-- a pair of one variable is entered once
pub entered-one-block : (tree : Tree) (pair : AliasPair) (old new : Table) → pair.first ≡ pair.second
    → HasPartner tree pair.first pair.second old new → HaveEnteredByBlock tree pair old new
entered-one-block tree pair old new alone one = λ root number.
    one root number
    ∙ ap (λ more. row_at old root number ++ filter (declares tree number) more)
    (ap (λ second. cond (nat_eq pair.first root) (second ∷ []) []) (sym alone)
    ∙ one-case pair.first root (nat_eq pair.first root)
    ∙ ap (λ second. cond (nat_eq pair.first root) (second ∷ []) (cond (nat_eq second root) (pair.first ∷ []) [])) alone)

-- none is listed with no pairs
pub none-by-block : (tree : Tree) (table : Table) → table.entries ≡ [] → AreByBlock (listed_of tree []) table
none-by-block tree table empty = λ root number. ap (λ es. kept_row (lookup (is_at (key_cmp (root, number))) es)) empty

-- one pair more
pub more-by-block : (tree : Tree) (pairs : List AliasPair) (i : ℕ) (pair : AliasPair) (old new : Table) → i < length pairs → pair ≡ get_or pairs i pair
    → HaveEnteredByBlock tree pair old new → AreByBlock (listed_of tree (take i pairs)) old → AreByBlock (listed_of tree (take (i + 1) pairs)) new
more-by-block tree pairs i pair old new inside is entered so_far = λ root number.
    let test = declares tree number in
    let before = aliases_of (said_pairs (take i pairs)) root in
    entered root number ∙ ap (λ row. row ++ filter test (partner root (said_pair pair))) (so_far root number)
    ∙ sym (filter-append test before (partner root (said_pair pair)))
    ∙ ap (filter test) (aliases-more pairs i pair root inside is)

-- ---- the blocks that are seen

-- those of a block that is there
pub seen-aliases : (listed : Listed) (tree : Tree) (block root : ℕ) (seen : Block) → listed.tree ≡ tree → slice_get tree.blocks.items block ≡ Some seen
    → flat_map (declared_aliases listed root) seen.heading.around.items ++ declared_aliases listed root block ≡ aliases_in listed block root
seen-aliases listed tree block root seen same is =
    flat_map_more (declared_aliases listed root) [] seen.heading.around.items block
    ∙ ap (λ (found : Option Block). flat_map (declared_aliases listed root) (blocks_round block found)) (sym is)
    ∙ ap (λ (t : Tree). flat_map (declared_aliases listed root) (blocks_seen t block)) (sym same)

-- where there is no such block, none is visible
pub no-block : (listed : Listed) (tree : Tree) (block root : ℕ) → listed.tree ≡ tree → slice_get tree.blocks.items block ≡ None
    → aliases_in listed block root ≡ []
no-block listed tree block root same is =
    ap (λ (t : Tree). flat_map (declared_aliases listed root) (blocks_seen t block)) same
    ∙ ap (λ (found : Option Block). flat_map (declared_aliases listed root) (blocks_round block found)) is

-- what a step that may fail gives, where it is told otherwise
pub if-ok : {X T E : Type 0} (result : Result T E) (x y z other : X) → x ≡ cond (is_ok result) y other → y ≡ z → IfOk result (λ done. x ≡ z)
if-ok (Ok done) x y z other is same = is ∙ same
if-ok (Err fault) x y z other is same = tt
