-- A table as the region that it is: what it says of a name, and what it is after an insert.
use Rattle.std.proofs.Common.{◌≡◌, ℕ, ◌+◌, ◌-◌, ◌<◌, Bool, true, false, cond, if◌then◌else◌, List, [], ◌∷◌, ◌++◌, Option, Some, None, Vec, nat_eq, map, take}
use Rattle.std.proofs.Common.{length, slice_index_or, slice_set, get_or, reverse, Ok, Err, is_ok, is_some, refl, sym, ap, ap₂, ◌∙◌, arith}
use Rattle.std.specs.List.{AllZip}
use Rattle.std.specs.Map.{lookup}
use Rattle.std.specs.HashMap.{HashMap, get, get_by}
use Rattle.std.specs.Cmp.Lexicographic.{pointwise}
use Rattle.std.specs.declared.alloc.Global.{Global}
use Rattle.std.proofs.lemmas.List.{map-append, reverse-append, take_all, take_more, take_more_set, length-set}
use Rattle.std.proofs.lemmas.List.Sums.{fold-append}
use Rattle.indexmap.specs.IndexMap.{insert_entry}
use Rattle.scopes.specs.declared.denotation.Denotation.{Denotation}
use Rattle.scopes.specs.declared.fault.ScopeFault.TheVariants as fault
use Rattle.scopes.specs.Scopes.{Region, innermost, said, decided, found, put, opened, opened_beside, opened_with, is_defined, is_listed, listing, define}
use Rattle.scopes.specs.Scopes.{region_of}

-- a table of what a region says
abbrev pub Table : Type 0 → Type 0
Table S = HashMap (Vec ℕ Global) (Option Denotation) S

-- an entry of a table, as a region's
abbrev pub entry_of : Vec ℕ Global × Option Denotation → List ℕ × Option Denotation
entry_of entry = (entry.0.items, entry.1)

-- the test by which a name is looked up
abbrev pub is_key : List ℕ → Vec ℕ Global → Bool
is_key name key = pointwise nat_eq name key.items

-- keys are alike where their bytes are
abbrev pub key_eq : Vec ℕ Global → Vec ℕ Global → Bool
key_eq a b = pointwise nat_eq a.items b.items

-- a region says what its table says
pub said_of : {S : Type 0} (table : Table S) (name : List ℕ) → said (region_of table) name ≡ lookup (is_key name) table.entries
said_of table name = said_of_entries table.entries
  where
    said_of_entries : (es : List (Vec ℕ Global × Option Denotation)) → lookup (pointwise nat_eq name) (map entry_of es) ≡ lookup (is_key name) es
    said_of_entries [] = refl
    said_of_entries (e ∷ es) = ap (λ rest. cond (pointwise nat_eq name e.0.items) (Some e.1) rest) (said_of_entries es)

-- an insert into a table is one into its region
pub put_is_insert : (key : Vec ℕ Global) (says : Option Denotation) (es : List (Vec ℕ Global × Option Denotation))
    → map entry_of (insert_entry key_eq es key says) ≡ put (map entry_of es) key.items says
put_is_insert key says [] = refl
put_is_insert key says (e ∷ es) = by (key_eq key e.0) (put_is_insert key says es)
  where
    by : (b : Bool) → map entry_of (insert_entry key_eq es key says) ≡ put (map entry_of es) key.items says
        → map entry_of (if b then (e.0, says) ∷ es else e ∷ insert_entry key_eq es key says)
        ≡ (if b then (e.0.items, says) ∷ map entry_of es else entry_of e ∷ put (map entry_of es) key.items says)
    by true rest = refl
    by false rest = ap (λ r. entry_of e ∷ r) rest

module _ {A B : Type 0} (f : A → B) where
  -- one item more behind the others comes first in the reverse
  pub reverse_more : (xs : List A) (x : A) → reverse (map f (xs ++ x ∷ [])) ≡ f x ∷ reverse (map f xs)
  reverse_more xs x = ap reverse (map-append f xs (x ∷ [])) ∙ reverse-append (map f xs) (f x ∷ [])

  pub last_is_first : (xs : List A) (n : ℕ) (x : A) → n ≡ length xs → 0 < n → x ≡ slice_index_or xs (n - 1) x
      → reverse (map f xs) ≡ f x ∷ reverse (map f (take (n - 1) xs))
  last_is_first xs n x h some is = ap (λ l. reverse (map f l)) (last_item xs n x h some is) ∙ reverse_more (take (n - 1) xs) x
    where
      last_item : (xs : List A) (n : ℕ) (x : A) → n ≡ length xs → 0 < n → x ≡ slice_index_or xs (n - 1) x → xs ≡ take (n - 1) xs ++ x ∷ []
      last_item xs n x h some is =
          sym (take_all (n - 1 + 1) xs (omega arith)) ∙ take_more xs (n - 1) x (omega arith) ∙ ap (λ y. take (n - 1) xs ++ y ∷ []) (sym is)

  pub written_last : (xs : List A) (n : ℕ) (y : A) → n ≡ length xs → 0 < n
      → reverse (map f (slice_set xs (n - 1) y)) ≡ f y ∷ reverse (map f (take (n - 1) xs))
  written_last xs n y h some = ap (λ l. reverse (map f l)) written ∙ reverse_more (take (n - 1) xs) y
    where
      written : slice_set xs (n - 1) y ≡ take (n - 1) xs ++ y ∷ []
      written = sym (take_all (n - 1 + 1) (slice_set xs (n - 1) y) (omega (arith, length-set {A = A}))) ∙ take_more_set xs (n - 1) y (omega arith)

module _ {X : Type 0} (Same : Option X → Option X → Type 0) where
  -- alike are only values of one form
  pub same_option : ((y : X) → Same None (Some y) → ⊥) → ((x : X) → Same (Some x) None → ⊥) → ((x y : X) → Same (Some x) (Some y) → y ≡ x)
      → (p q : Option X) → Same p q → q ≡ p
  same_option none some both None None h = refl
  same_option none some both None (Some y) h = elim (none y h) [ ]
  same_option none some both (Some x) None h = elim (some x h) [ ]
  same_option none some both (Some x) (Some y) h = ap Some (both x y h)

-- entries that are alike are those of one region
pub same_entries : (Key : Vec ℕ Global → Vec ℕ Global → Type 0) (Says : Option Denotation → Option Denotation → Type 0)
    → ((a b : Vec ℕ Global) → Key a b → b.items ≡ a.items) → ((p q : Option Denotation) → Says p q → q ≡ p)
    → (es fs : List (Vec ℕ Global × Option Denotation)) → AllZip (λ e f. Key e.0 f.0 × Says e.1 f.1) es fs → map entry_of fs ≡ map entry_of es
same_entries Key Says keys says [] [] h = refl
same_entries Key Says keys says [] (f ∷ fs) h = elim h [ ]
same_entries Key Says keys says (e ∷ es) [] h = elim h [ ]
same_entries Key Says keys says (e ∷ es) (f ∷ fs) h =
    ap₂ (λ x xs. x ∷ xs) (ap₂ (λ k s. (k, s)) (keys e.0 f.0 h.0.0) (says e.1 f.1 h.0.1)) (same_entries Key Says keys says es fs h.1)

-- a region lists a name if its table has it
listed_is_some : (says : Option (Option Denotation)) → is_listed says ≡ is_some says
listed_is_some None = refl
listed_is_some (Some says) = refl

module _ {S : Type 0} (keys : List (Vec ℕ Global)) (i : ℕ) (parameters before after : Table S) where
  -- a region of parameters and some names, and one name more
  pub lists_more : i < length keys → (item : Vec ℕ Global) → item ≡ get_or keys i item
      → region_of after ≡ listing (region_of before) item.items
      → region_of before ≡ opened_beside (region_of parameters) (map (λ k. k.items) (take i keys))
      → region_of after ≡ opened_beside (region_of parameters) (map (λ k. k.items) (take (i + 1) keys))
  lists_more within item there lists was =
      lists ∙ ap (λ k. listing (region_of before) k.items) there
      ∙ ap (λ r. listing r (get_or keys i item).items) was
      ∙ sym (fold-append listing (region_of parameters) (map (λ k. k.items) (take i keys)) ((get_or keys i item).items ∷ []))
      ∙ ap (opened_beside (region_of parameters)) (sym (map-append (λ k. k.items) (take i keys) (get_or keys i item ∷ [])))
      ∙ ap (λ ks. opened_beside (region_of parameters) (map (λ k. k.items) ks)) (sym (take_more keys i item within))

module _ {S : Type 0} (table : Table S) (name : List ℕ) where
  chosen : (b : Bool) → is_some (get_by (is_key name) table) ≡ b
      → listing (region_of table) name ≡ (if b then region_of table else put (region_of table) name None)
  chosen b is =
      ap (λ c. if c then region_of table else put (region_of table) name None)
      (listed_is_some (said (region_of table) name) ∙ ap is_some (said_of table name) ∙ is)

  -- a name that a region lists is listed already
  pub lists_already : is_some (get_by (is_key name) table) ≡ true → region_of table ≡ listing (region_of table) name
  unfolding chosen
  lists_already there = sym (chosen true there)

  -- another is listed too
  pub lists_new : (key : Vec ℕ Global) (after : Table S) → is_some (get_by (is_key name) table) ≡ false → key.items ≡ name
      → after.entries ≡ insert_entry key_eq table.entries key None → region_of after ≡ listing (region_of table) name
  unfolding chosen
  lists_new key after new is entries =
      ap (map entry_of) entries ∙ put_is_insert key None table.entries ∙ ap (λ n. put (region_of table) n None) is ∙ sym (chosen false new)

module _ {S : Type 0} where
  -- the innermost region decides over a name
  pub decides_last : (tables outer : List (Table S)) (table : Table S) (name : List ℕ) → tables ≡ outer ++ table ∷ []
      → found (reverse (map region_of tables)) name ≡ decided (get_by (is_key name) table) (found (reverse (map region_of outer)) name)
  decides_last tables outer table name is =
      ap (λ ts. found (reverse (map region_of ts)) name) is ∙ ap (λ rs. found rs name) (reverse_more region_of outer table)
      ∙ ap (λ says. decided says (found (reverse (map region_of outer)) name)) (said_of table name)

  -- what the innermost region says
  pub says_last : (tables : List (Table S)) (n : ℕ) (table : Table S) (name : List ℕ) → n ≡ length tables → 0 < n → table ≡ slice_index_or tables (n - 1) table
      → said (innermost (reverse (map region_of tables))) name ≡ get_by (is_key name) table
  says_last tables n table name len some is =
      ap (λ rs. said (innermost rs) name) (last_is_first region_of tables n table len some is) ∙ said_of table name

  -- a region of some names, and one name more
  pub opens_more : (keys : List (Vec ℕ Global)) (i : ℕ) (item key : Vec ℕ Global) (before after : Table S)
      → i < length keys → item ≡ get_or keys i item → key.items ≡ item.items
      → after.entries ≡ insert_entry key_eq before.entries key None
      → region_of before ≡ opened (map (λ k. k.items) (take i keys))
      → region_of after ≡ opened (map (λ k. k.items) (take (i + 1) keys))
  opens_more keys i item key before after within there is entries was =
      ap (map entry_of) entries ∙ put_is_insert key None before.entries
      ∙ ap (λ n. put (region_of before) n None) (is ∙ ap (λ k. k.items) there)
      ∙ ap (λ r. put r (get_or keys i item).items None) was
      ∙ sym (fold-append (λ region name. put region name None) [] (map (λ k. k.items) (take i keys)) ((get_or keys i item).items ∷ []))
      ∙ ap opened (sym (map-append (λ k. k.items) (take i keys) (get_or keys i item ∷ [])))
      ∙ ap (λ ks. opened (map (λ k. k.items) ks)) (sym (take_more keys i item within))

  -- a region of some definitions, and one definition more
  pub defines_more : {D : Type 0} (f : D → List ℕ × Denotation) (ds : List D) (i : ℕ) (d : D) (key : Vec ℕ Global) (before after : Table S)
      → i < length ds → key.items ≡ (f (get_or ds i d)).0
      → after.entries ≡ insert_entry key_eq before.entries key (Some (f (get_or ds i d)).1)
      → region_of before ≡ opened_with (map f (take i ds))
      → region_of after ≡ opened_with (map f (take (i + 1) ds))
  defines_more f ds i d key before after within is entries was =
      let next = f (get_or ds i d) in
      ap (map entry_of) entries ∙ put_is_insert key (Some next.1) before.entries
      ∙ ap (λ n. put (region_of before) n (Some next.1)) is
      ∙ ap (λ r. put r next.0 (Some next.1)) was
      ∙ sym (fold-append (λ region e. put region e.0 (Some e.1)) [] (map f (take i ds)) (next ∷ []))
      ∙ ap opened_with (sym (map-append f (take i ds) (get_or ds i d ∷ [])))
      ∙ ap (λ es. opened_with (map f es)) (sym (take_more ds i d within))

  module _ (tables : List (Table S)) (n : ℕ) (before : Table S) (len : n ≡ length tables) (some : 0 < n)
      (is : before ≡ slice_index_or tables (n - 1) before) (key : Vec ℕ Global) (d : Denotation) where
    outer : List Region
    outer = reverse (map region_of (take (n - 1) tables))

    -- the innermost region has the name already
    pub defined_in_last : is_defined (get key_eq before key) ≡ true → define key.items d (reverse (map region_of tables)) ≡ Err fault.DeclaredTwice
    unfolding outer
    defined_in_last there =
        ap (define key.items d) (last_is_first region_of tables n before len some is)
        ∙ ap (λ b. if b then Err fault.DeclaredTwice else Ok (put (region_of before) key.items (Some d) ∷ outer))
        (ap is_defined (said_of before key.items) ∙ there)

    -- an insert into the innermost region defines a name
    pub defines_last : (after : Table S) → after.entries ≡ insert_entry key_eq before.entries key (Some d) → is_defined (get key_eq before key) ≡ false
        → define key.items d (reverse (map region_of tables)) ≡ Ok (reverse (map region_of (slice_set tables (n - 1) after)))
    unfolding outer
    defines_last after entries new =
        ap (define key.items d) (last_is_first region_of tables n before len some is)
        ∙ ap (λ b. if b then Err fault.DeclaredTwice else Ok (put (region_of before) key.items (Some d) ∷ outer))
        (ap is_defined (said_of before key.items) ∙ new)
        ∙ ap (λ r. Ok (r ∷ outer)) (sym (ap (map entry_of) entries ∙ put_is_insert key (Some d) before.entries))
        ∙ ap Ok (sym (written_last region_of tables n after len some))

    -- what the innermost region hasn't defined may be defined
    pub may_define_last : is_defined (get key_eq before key) ≡ false → is_ok (define key.items d (reverse (map region_of tables))) ≡ true
    unfolding outer
    may_define_last new =
        ap (λ regions. is_ok (define key.items d regions)) (last_is_first region_of tables n before len some is)
        ∙ ap (λ b. is_ok (if b then Err fault.DeclaredTwice else Ok (put (region_of before) key.items (Some d) ∷ outer)))
        (ap is_defined (said_of before key.items) ∙ new)

    -- the innermost region is written again, with the same entries
    pub written_again : (after : Table S) → after.entries ≡ before.entries
        → reverse (map region_of (slice_set tables (n - 1) after)) ≡ reverse (map region_of tables)
    unfolding outer
    written_again after same =
        written_last region_of tables n after len some
        ∙ ap (λ es. map entry_of es ∷ outer) same
        ∙ sym (last_is_first region_of tables n before len some is)
