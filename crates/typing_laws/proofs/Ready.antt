-- What is known among declarations: the types, the variables and the headings fit each other, each name denotes what is
-- sound, and the cells of the block's variables are counted.
use Rattle.std.proofs.Common.{◌≡◌, ℕ, zero, suc, ◌+◌, ◌<◌, ◌≤◌, Bool, true, false, nat_lt, nat_eq, List, [], ◌∷◌, ◌++◌, length, map, Some, None, slice_get}
use Rattle.std.proofs.Common.{refl, sym, ap, subst, ◌∙◌, arith, length-append, inl, inr, ◌⊎◌, ◌||◌}
use Rattle.std.specs.List.{list_all}
use Rattle.std.proofs.lemmas.Bool.{eqb-true}
use Rattle.std.proofs.lemmas.Bool.Decides.{nat_tests}
use Rattle.std.proofs.lemmas.List.Folds.{list_all-append}
use Rattle.std.proofs.lemmas.Option.{slice_get_within}
use Rattle.types.specs.Forms.{Form}
use Rattle.types.specs.Types.{cells_of, is_ordinal, most_cells}
use Rattle.typed_tree.specs.declared.tree.Variable.{Variable}
use Rattle.typed_tree.specs.declared.tree.VariableKind.{VariableKind}
use Rattle.typed_tree.specs.WellFormed.{declarer, is_local_kind, is_parameter_kind, is_result_kind, is_one_of, most_blocks, most_numbered}
use Rattle.typing.specs.Passing.{Headed, Passed}
use Rattle.typing_laws.proofs.Grown.{AreFit, FitsHeading, IsFormal, both_true}
use Rattle.typing_laws.proofs.Owned.{Fails, HasRoot, declares, parameters_of, results_of, roots_of, root_there, roots_none_more, not_both, local_no_parameter}
use Rattle.typing_laws.proofs.Owned.{local_no_result, other_block, of_other_block, cells_of_block, others_kept, cells_more, block_cells_longer}
use Rattle.typing_laws.proofs.Reached.{IsLonger, as_long, one_longer, mapped_longer, get_longer, get_mapped, last_or_before, signature_passed, Head, head_of}
use Rattle.typing_laws.proofs.Reached.{reached, Here}
use Rattle.typing_laws.proofs.Sound.{IsSoundRegion, inside_itself, region_later}
use Rattle.typing_laws.proofs.Strings.{both_and}
use Rattle.typing_laws.proofs.Tables.{AreLawful, HaveTypes, cells_in, have_types_longer, is_ordinal_longer, one_has_type}

-- ---- headings

abbrev pub heads_passed : List Headed → List Head
heads_passed headings = map head_of (map signature_passed headings)

-- the program's heading is the first, and a routine's stands where its declarer's block is
abbrev pub IsPlacedAt : List Headed → ℕ → Headed → Type 0
IsPlacedAt headings zero headed = (headed.around ≡ []) × (headed.parameters ≡ []) × (headed.result ≡ None)
IsPlacedAt headings (suc block) headed =
    (length headed.around < most_blocks)
    × (last : ℕ) × (declarer headed.around ≡ Some last) × (last < suc block)
    × (outer : Headed) × (slice_get headings last ≡ Some outer) × (headed.around ≡ outer.around ++ last ∷ [])

abbrev pub within : ℕ → Headed → Here
within block headed = record { block = block; around = headed.around; records = [] }

-- an ordinal variable that a block declares
abbrev pub IsOrdinalAt : List Form → List Variable → ℕ → Type 0
IsOrdinalAt types variables root = (v : Variable) × (slice_get variables root ≡ Some v) × (is_ordinal types v.type_id ≡ true)

-- a heading stands where its block does, and has the parameters and the result that this declares
pub record IsHeaded (types : List Form) (variables : List Variable) (headings : List Headed) (block : ℕ) (headed : Headed) : Type 0 where
  pub placed : IsPlacedAt headings block headed
  pub parameters : headed.parameters ≡ parameters_of block variables
  pub results : roots_of headed.result ≡ results_of block variables
  pub ordinal : (root : ℕ) → headed.result ≡ Some root → IsOrdinalAt types variables root
  pub region : IsSoundRegion (within block headed) variables types (heads_passed headings) headed.region

pub placed_longer : (old new : List Headed) (block : ℕ) (headed : Headed) → IsLonger old new → IsPlacedAt old block headed → IsPlacedAt new block headed
placed_longer old new zero headed longer p = p
placed_longer old new (suc block) headed longer p = (p.0, p.1, p.2, p.3, p.4, get_longer longer p.1 p.4 p.5, p.6)

-- ---- types, variables and headings

-- they fit each other, where variables belong to so many blocks
pub record Base (types : List Form) (variables : List Variable) (headings : List Headed) (blocks : ℕ) : Type 0 where
  pub lawful : AreLawful types
  pub headed : (block : ℕ) (h : Headed) → slice_get headings block ≡ Some h → IsHeaded types variables headings block h
  pub by_blocks : list_all (λ variable. nat_lt variable.block blocks) variables ≡ true
  pub have_types : HaveTypes types variables
  pub few_variables : length variables ≤ most_numbered
  pub few_blocks : blocks ≤ most_numbered
  pub few_cells : (block : ℕ) → cells_of_block types block variables ≤ most_cells

pub type_stands : (types : List Form) (variables : List Variable) (root : ℕ) (v : Variable) → HaveTypes types variables → slice_get variables root ≡ Some v
    → v.type_id.index < length types
type_stands types [] root v all is = absurd cc
type_stands types (one ∷ variables) zero v all is = let same : one ≡ v = cc in subst (λ (w : Variable). w.type_id.index < length types) same all.0
type_stands types (one ∷ variables) (suc root) v all is = type_stands types variables root v all.1 is

-- with more types
pub base_types : (old new : List Form) (variables : List Variable) (headings : List Headed) (blocks : ℕ) → IsLonger old new → AreLawful new
    → Base old variables headings blocks → Base new variables headings blocks
base_types old new variables headings blocks longer lawful b = record {
  lawful = lawful;
  headed = λ block h is.
      let one = b.headed block h is in
      record {
        placed = one.placed;
        parameters = one.parameters;
        results = one.results;
        ordinal = λ root there.
            let o = one.ordinal root there in
            (o.0, o.1, is_ordinal_longer longer o.0.type_id (type_stands old variables root o.0 b.have_types o.1) ∙ o.2);
        region = region_later inside_itself as_long longer as_long h.region one.region;
      };
  by_blocks = b.by_blocks;
  have_types = have_types_longer longer variables b.have_types;
  few_variables = b.few_variables;
  few_blocks = b.few_blocks;
  few_cells = λ block. omega (arith, block_cells_longer longer block variables b.have_types, b.few_cells block);
}

-- a variable that no heading tells: one of the variable declaration part, or one of a block whose heading comes
abbrev pub IsUntold : List Headed → Variable → Type 0
IsUntold headings variable = (is_local_kind variable.kind ≡ true) ⊎ (length headings ≤ variable.block)

untold_parameter : (headings : List Headed) (block : ℕ) (variable : Variable) → block < length headings → IsUntold headings variable
    → Fails (declares block is_parameter_kind variable)
untold_parameter headings block variable there (inl local) =
    not_both (nat_eq variable.block block) (is_parameter_kind variable.kind) (local_no_parameter variable.kind local)
untold_parameter headings block variable there (inr new) =
    of_other_block block is_parameter_kind variable (other_block variable.block block (λ same. omega (arith, same, there, new)))

untold_result : (headings : List Headed) (block : ℕ) (variable : Variable) → block < length headings → IsUntold headings variable
    → Fails (declares block is_result_kind variable)
untold_result headings block variable there (inl local) =
    not_both (nat_eq variable.block block) (is_result_kind variable.kind) (local_no_result variable.kind local)
untold_result headings block variable there (inr new) =
    of_other_block block is_result_kind variable (other_block variable.block block (λ same. omega (arith, same, there, new)))

lt_is : (a b : ℕ) → a < b → nat_lt a b ≡ true
lt_is a b h = grind (arith, nat_tests)

-- one variable more
pub base_variable : (types : List Form) (variables : List Variable) (headings : List Headed) (blocks : ℕ) (variable : Variable)
    → Base types variables headings blocks → variable.block < blocks → variable.type_id.index < length types → length variables < most_numbered
    → cells_of_block types variable.block variables + cells_of types variable.type_id ≤ most_cells → IsUntold headings variable
    → Base types (variables ++ variable ∷ []) headings blocks
base_variable types variables headings blocks variable b there stands few room untold = record {
  lawful = b.lawful;
  headed = λ block h is.
      let one = b.headed block h is in
      let known = slice_get_within headings block h is in
      record {
        placed = one.placed;
        parameters =
            one.parameters
            ∙ sym (roots_none_more (declares block is_parameter_kind) variables variable (untold_parameter headings block variable known untold));
        results =
            one.results ∙ sym (roots_none_more (declares block is_result_kind) variables variable (untold_result headings block variable known untold));
        ordinal = λ root told.
            let o = one.ordinal root told in
            (o.0, get_longer (one_longer variables variable) root o.0 o.1, o.2);
        region = region_later inside_itself (one_longer variables variable) as_long as_long h.region one.region;
      };
  by_blocks =
      list_all-append (λ (v : Variable). nat_lt v.block blocks) variables (variable ∷ [])
      ∙ both_true _ _ b.by_blocks (both_true _ true (lt_is variable.block blocks there) refl);
  have_types = one_has_type types variables variable b.have_types stands;
  few_variables = omega (arith, few, length-append variables (variable ∷ []));
  few_blocks = b.few_blocks;
  few_cells = λ block. by block (nat_eq variable.block block) refl;
}
  where
    by : (block : ℕ) (own : Bool) → nat_eq variable.block block ≡ own → cells_of_block types block (variables ++ variable ∷ []) ≤ most_cells
    by block true own =
        let same = eqb-true variable.block block own in
        let counted : cells_of_block types variable.block variables ≡ cells_of_block types block variables =
        ap (λ n. cells_of_block types n variables) same in
        omega (arith, cells_more types block variables variable own, counted, room)
    by block false other = omega (arith, ap (λ l. cells_in types l) (others_kept block variables variable other), b.few_cells block)

more_blocks : (variables : List Variable) (few many : ℕ) → few ≤ many → list_all (λ (v : Variable). nat_lt v.block few) variables ≡ true
    → list_all (λ (v : Variable). nat_lt v.block many) variables ≡ true
more_blocks [] few many h all = refl
more_blocks (v ∷ variables) few many h all =
    let parts = both_and (nat_lt v.block few) (list_all (λ (w : Variable). nat_lt w.block few) variables) all in
    both_true _ _ (by parts.0) (more_blocks variables few many h parts.1)
  where
    by : nat_lt v.block few ≡ true → nat_lt v.block many ≡ true
    by is = grind (arith, nat_tests)

-- variables may belong to more blocks
pub base_blocks : (types : List Form) (variables : List Variable) (headings : List Headed) (few many : ℕ) → few ≤ many → many ≤ most_numbered
    → Base types variables headings few → Base types variables headings many
base_blocks types variables headings few many h room b = record {
  lawful = b.lawful;
  headed = b.headed;
  by_blocks = more_blocks variables few many h b.by_blocks;
  have_types = b.have_types;
  few_variables = b.few_variables;
  few_blocks = room;
  few_cells = b.few_cells;
}

-- one heading more
pub base_heading : (types : List Form) (variables : List Variable) (headings : List Headed) (blocks : ℕ) (headed : Headed)
    → Base types variables headings blocks → IsHeaded types variables (headings ++ headed ∷ []) (length headings) headed
    → Base types variables (headings ++ headed ∷ []) blocks
base_heading types variables headings blocks headed b new = record {
  lawful = b.lawful;
  headed = λ block h is. by block h (last_or_before headings headed block h is);
  by_blocks = b.by_blocks;
  have_types = b.have_types;
  few_variables = b.few_variables;
  few_blocks = b.few_blocks;
  few_cells = b.few_cells;
}
  where
    longer : IsLonger headings (headings ++ headed ∷ [])
    longer = one_longer headings headed

    by : (block : ℕ) (h : Headed) → (slice_get headings block ≡ Some h) ⊎ ((block ≡ length headings) × (headed ≡ h))
        → IsHeaded types variables (headings ++ headed ∷ []) block h
    by block h (inl before) =
        let one = b.headed block h before in
        record {
          placed = placed_longer headings (headings ++ headed ∷ []) block h longer one.placed;
          parameters = one.parameters;
          results = one.results;
          ordinal = one.ordinal;
          region = region_later inside_itself as_long as_long (mapped_longer head_of (mapped_longer signature_passed longer)) h.region one.region;
        }
    by block h (inr last) =
        subst (λ n. IsHeaded types variables (headings ++ headed ∷ []) n h) (sym last.0)
        (subst (λ z. IsHeaded types variables (headings ++ headed ∷ []) (length headings) z) last.1 new)

-- ---- what is so of headings may be passed on

pub fit_of : (s : Passed) (blocks : ℕ) → Base s.types s.variables s.headings blocks → AreFit (reached s)
fit_of s blocks b = record {
  fits = λ block signature is.
      let at = get_mapped signature_passed s.headings block signature is in
      let one = b.headed block at.0 at.1 in
      subst (FitsHeading (reached s) block) at.2 (record {
        formals = λ position root there.
            let r = root_there (declares block is_parameter_kind) 0 s.variables position root
            (ap (λ l. slice_get l position) (sym one.parameters) ∙ there) in
            formal block root r;
        outcome = λ root told.
            let o = one.ordinal root told in
            let listed : slice_get (results_of block s.variables) 0 ≡ Some root =
            ap (λ l. slice_get l 0) (sym one.results ∙ ap roots_of told) in
            let r = root_there (declares block is_result_kind) 0 s.variables 0 root listed in
            let there = at_place block root is_result_kind r in
            let same : r.variable ≡ o.0 = some_same r.variable o.0 (sym there ∙ o.1) in
            record {
              variable = r.variable;
              is_there = there;
              of_block = eqb-true r.variable.block block (both_and (nat_eq r.variable.block block) (is_result_kind r.variable.kind) r.holds).0;
              ordinal = ap (λ (v : Variable). is_ordinal s.types v.type_id) same ∙ o.2;
              stands = type_stands s.types s.variables root r.variable b.have_types there;
            };
      });
}
  where
    some_same : (a c : Variable) → Some a ≡ Some c → a ≡ c
    some_same a c is = cc

    at_place : (block root : ℕ) (is_kind : VariableKind → Bool) (r : HasRoot (declares block is_kind) 0 root s.variables)
        → slice_get s.variables root ≡ Some r.variable
    at_place block root is_kind r =
        let same : root ≡ r.place = omega (arith, r.at) in ap (slice_get s.variables) same ∙ r.is_there

    formal : (block root : ℕ) → HasRoot (declares block is_parameter_kind) 0 root s.variables → IsFormal (reached s) root
    formal block root r =
        let there = at_place block root is_parameter_kind r in
        record {
          variable = r.variable;
          is_there = there;
          is_parameter = (both_and (nat_eq r.variable.block block) (is_parameter_kind r.variable.kind) r.holds).1;
          stands = type_stands s.types s.variables root r.variable b.have_types there;
        }

-- ---- the blocks round a block

pub among_split : (blocks : List ℕ) (last block : ℕ) → is_one_of (blocks ++ last ∷ []) block ≡ true → (is_one_of blocks block ≡ true) ⊎ (block ≡ last)
among_split [] last block is = by (nat_eq last block) refl is
  where
    by : (test : Bool) → nat_eq last block ≡ test → (test || false) ≡ true → (is_one_of [] block ≡ true) ⊎ (block ≡ last)
    by true same h = inr (sym (eqb-true last block same))
    by false same h = absurd cc
among_split (one ∷ blocks) last block is = by (nat_eq one block) refl is (among_split blocks last block)
  where
    by : (test : Bool) → nat_eq one block ≡ test → (test || is_one_of (blocks ++ last ∷ []) block) ≡ true
        → (is_one_of (blocks ++ last ∷ []) block ≡ true → (is_one_of blocks block ≡ true) ⊎ (block ≡ last))
        → ((test || is_one_of blocks block) ≡ true) ⊎ (block ≡ last)
    by true same h more = inl refl
    by false same h more = more h

-- they have lower numbers
pub around_less : (types : List Form) (variables : List Variable) (headings : List Headed) (blocks : ℕ) → Base types variables headings blocks
    → (many number : ℕ) → number < many → (headed : Headed) → slice_get headings number ≡ Some headed → (block : ℕ)
    → is_one_of headed.around block ≡ true → block < number
around_less types variables headings blocks b zero number less headed is block among = absurd (omega (arith, less))
around_less types variables headings blocks b (suc many) zero less headed is block among =
    let placed = (b.headed zero headed is).placed in absurd (no (sym (ap (λ l. is_one_of l block) placed.0) ∙ among))
  where
    no : ◌≡◌ {A = Bool} false true → ⊥
    no h = absurd cc
around_less types variables headings blocks b (suc many) (suc number) less headed is block among =
    let placed = (b.headed (suc number) headed is).placed in
    by placed.1 placed.3 (among_split placed.4.around placed.1 block (sym (ap (λ l. is_one_of l block) placed.6) ∙ among))
    (around_less types variables headings blocks b many placed.1 (omega (arith, less, placed.3)) placed.4 placed.5 block)
  where
    by : {inside : Bool} (last : ℕ) → last < suc number → (inside ≡ true) ⊎ (block ≡ last) → (inside ≡ true → block < last) → block < suc number
    by last few (inl inner) more = let deeper = more inner in omega (arith, few, deeper)
    by last few (inr same) more = omega (arith, few, same)
