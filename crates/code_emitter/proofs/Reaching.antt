-- Code that reaches what is accessed, as it is emitted.
use Rattle.std.proofs.Common.{◌≡◌, ℕ, Bool, true, false, List, [], ◌∷◌, ◌++◌, Some, None, if◌then◌else◌, refl, ap, sym}
use Rattle.pcode_assembler.specs.declared.instr.Instr.{Instr}
use Rattle.pcode_assembler.specs.declared.instr.Instr.TheVariants as instr
use Rattle.typed_tree.specs.declared.tree.Access.{Access}
use Rattle.typed_tree.specs.declared.tree.Selector.{Selector}
use Rattle.typed_tree.specs.declared.tree.Selector.TheVariants.{Element, Field}
use Rattle.code_scheme.specs.Code.{At, By, Reached, address_code, address_of, fetch_code, reached_from, selectors_code, store_code}
use Rattle.code_scheme.specs.Depth.{access_depth}
use Rattle.code_scheme.specs.Scopes.{Scope, access_home, access_offset, behind_fields, links_to, selectors_from}
use Rattle.code_emitter.specs.declared.access.Cell.{Cell}
use Rattle.code_emitter.specs.Reaching.{address_instr, cell_of}

-- what lies in a cell of a frame
pub fetch_cell : (r : Reached) (level offset : ℕ) → Some (record { level = level; offset = offset }) ≡ cell_of r
    → fetch_code r ≡ instr.Load level offset ∷ []
fetch_cell (At first start) level offset is =
    let same : record { level = level; offset = offset } ≡ record { level = first; offset = start } = cc in
    ap (λ (c : Cell). instr.Load c.level c.offset ∷ []) (sym same)
fetch_cell (By address) level offset is = absurd (cc)

pub fetch_by : (r : Reached) → None ≡ cell_of r → fetch_code r ≡ address_of r ++ (instr.LoadIndirect 0 ∷ [])
fetch_by (At first start) is = absurd (cc)
fetch_by (By address) is = refl

pub store_cell : (value : List Instr) (r : Reached) (level offset : ℕ) → Some (record { level = level; offset = offset }) ≡ cell_of r
    → store_code value r ≡ value ++ (instr.Store level offset ∷ [])
store_cell value (At first start) level offset is =
    let same : record { level = level; offset = offset } ≡ record { level = first; offset = start } = cc in
    ap (λ (c : Cell). value ++ (instr.Store c.level c.offset ∷ [])) (sym same)
store_cell value (By address) level offset is = absurd (cc)

pub store_by : (value : List Instr) (r : Reached) → None ≡ cell_of r → store_code value r ≡ address_of r ++ (value ++ (instr.StoreIndirect ∷ []))
store_by value (At first start) is = absurd (cc)
store_by value (By address) is = refl

-- an address: the instruction that pushes the first one, and the code of the selectors
from_is : (level start : ℕ) (selectors : List Selector) (codes : List (List Instr))
    → address_of (reached_from level start selectors codes) ≡ instr.LoadAddress level start ∷ selectors_code selectors codes
from_is level start [] codes = refl
from_is level start (selector ∷ selectors) codes = refl

any_is : (refers : Bool) (level start place : ℕ) (selectors : List Selector) (codes : List (List Instr))
    → address_of (if refers then By (instr.Load level start ∷ selectors_code selectors codes) else
    reached_from level place (behind_fields selectors) codes) ≡ (if refers then instr.Load level start else instr.LoadAddress level place) ∷
    selectors_code (selectors_from refers selectors) codes
any_is true level start place selectors codes = refl
any_is false level start place selectors codes = from_is level place (behind_fields selectors) codes

pub address_is : (scope : Scope) (access : Access) (codes : List (List Instr))
    → address_code scope access codes ≡ address_instr scope access ∷
    selectors_code (selectors_from (access_home scope access).refers access.selectors.items) codes
address_is scope access codes =
    let home = access_home scope access in
    any_is home.refers (links_to scope home.level) home.start (access_offset scope access) access.selectors.items codes

-- what fields alone select has no index to evaluate, and the fields before the first index have none
pub fields_need_one : (selectors : List Selector) (indexes : List ℕ) → behind_fields selectors ≡ [] → access_depth selectors indexes ≡ 1
fields_need_one [] indexes none = refl
fields_need_one (Field position before ∷ selectors) indexes none = fields_need_one selectors indexes none
fields_need_one (Element fits cells ∷ selectors) indexes none = absurd (cc)

behind_needs : (selectors : List Selector) (indexes : List ℕ) → access_depth (behind_fields selectors) indexes ≡ access_depth selectors indexes
behind_needs [] indexes = refl
behind_needs (Field position before ∷ selectors) indexes = behind_needs selectors indexes
behind_needs (Element fits cells ∷ selectors) indexes = refl

pub from_needs : (refers : Bool) (selectors : List Selector) (indexes : List ℕ)
    → access_depth (selectors_from refers selectors) indexes ≡ access_depth selectors indexes
from_needs true selectors indexes = refl
from_needs false selectors indexes = behind_needs selectors indexes
