-- Tables of delimiters: one entry read, and one replaced.
use Rattle.std.proofs.Common.{◌≡◌, ℕ, ◌<◌, true, false, List, [], map, length, get_or, set, sym, ap, ◌∙◌, ⊎_elim, arith, get_or-set_other, get_or-set_same, eqb-true}
use borrow.Author.Tests.{eqb-false}
use Rattle.std.proofs.lemmas.List.{map-set, length-map}
use Rattle.std.proofs.lemmas.Bool.{cases_Bool}
use Rattle.syntax.specs.declared.delimiter.Delimiter.{Delimiter}
use Rattle.syntax.specs.declared.name.DelimiterName.{DelimiterName}
use Rattle.syntax.specs.Delims.{bytes_of}
use Rattle.syntax.specs.Names.{index_of, same_name}
use Rattle.syntax.specs.Building.{table_of}
use Rattle.syntax.specs.Drafts.{replaced}

-- one delimiter replaced: its entry is the new bytes, and the others are as they were
pub table_set : (ds : List Delimiter) (which n : DelimiterName) (d : Delimiter) → index_of which < length ds → table_of (set ds (index_of which) d) n ≡ replaced (table_of ds) which (bytes_of d) n
table_set ds which n d h =
    let l : index_of which < length (map bytes_of ds) = simp length-map h in
    ap (λ l. get_or l (index_of n) []) (map-set bytes_of ds (index_of which) d)
    ∙ ⊎_elim
    (λ e. ap (λ i. get_or (set (map bytes_of ds) (index_of which) (bytes_of d)) i []) (eqb-true (index_of n) (index_of which) e)
    ∙ get_or-set_same (map bytes_of ds) (index_of which) (bytes_of d) [] l
    ∙ sym (ap (λ t. elim t [ true ↦ bytes_of d | false ↦ table_of ds n ]) e))
    (λ e. get_or-set_other (map bytes_of ds) (index_of which) (index_of n) (bytes_of d) [] (eqb-false (index_of n) (index_of which) e)
    ∙ sym (ap (λ t. elim t [ true ↦ bytes_of d | false ↦ table_of ds n ]) e))
    (cases_Bool (same_name n which))

-- the same, at a place that is the name's, with bytes that are the delimiter's
pub table_written : (ds : List Delimiter) (which n : DelimiterName) (i : ℕ) (d : Delimiter) (bs : List ℕ) → i ≡ index_of which → i < length ds → bytes_of d ≡ bs → table_of (set ds i d) n ≡ replaced (table_of ds) which bs n
table_written ds which n i d bs e h f =
    let l : index_of which < length ds = omega arith in
    ap (λ k. table_of (set ds k d) n) e ∙ table_set ds which n d l ∙ ap (λ b. replaced (table_of ds) which b n) f
