-- The listing's text, read as DIMACS, is the listing. Assumes nothing.
use mathlib.Core.Path.{◌≡◌, refl, sym, ap, ◌∙◌}
use mathlib.Core.Bool.{false, not}
use mathlib.Core.List.{List, [], ◌∷◌, ◌++◌, map, append_assoc, append-nil}
use Rattle.std.specs.Prelude.{Some}
use Prim.Native.Nat.{ℕ, zero, suc, ◌+◌, ◌≤◌, ◌<◌}
use native.Mathlib.Numerals.{add-one}
use native.Mathlib.Omega.{arith}
use borrow.Author.Tests.{ne_eqb}
use lib.Dec.{T, eqb}
use lib.ListN.{length, get_or}
use Rattle.model.specs.declared.Literal.{Literal}
use Rattle.model.specs.declared.Literal.TheVariants.{Pos, Neg}
use Rattle.model.specs.declared.Model.{Model}
use Rattle.std.specs.List.{flat_map}
use Rattle.model.specs.Lists.{those, range, is_empty}
use Rattle.model.specs.Propagate.{Settled}
use Rattle.model.specs.Cnf.{variable_count, block_count, clause_count, block_clauses, clauses}
use Rattle.model.specs.Sheet.{on_first, lines_of}
use Rattle.model.specs.Text.{decimal, literal_text, clause_text, header_text, block_text, listing}
use Rattle.model.specs.Dimacs.{is_blank, pieces, tokens, natural, literal, end, signed_number, number, more, clauses_from, is_comment, with_header, formula_of, read_dimacs}
use Rattle.model.specs.Assignment.{variable}
use Rattle.model.proofs.Lists.{each-each, each-range_ext, those-all, All, all_both, all-imp, all-map-iff, all_of, all-each}
use Rattle.encoding_laws.specs.Division.{clauses_by_group, listing_by_group, SameListing}
use Rattle.encoding_laws.proofs.Decimal.{decimal-digits, decimal-some, decimal-natural}
use Rattle.encoding_laws.proofs.Ranges.{In, variables-in}
use Rattle.encoding_laws.proofs.Blocks.{group-whole, by-group-parts}

-- ---- the listing as a header line and a line for each clause

unfoldable pub header_line : Model → List ℕ
header_line m = (112 ∷ 32 ∷ 99 ∷ 110 ∷ 102 ∷ 32 ∷ []) ++ decimal (variable_count m) ++ (32 ∷ []) ++ decimal (clause_count m)

-- a literal without its space, and a clause without its byte 10
unfoldable pub literal_word : Literal → List ℕ
literal_word (Pos v) = decimal v
literal_word (Neg v) = 45 ∷ decimal v

unfoldable pub clause_line : List Literal → List ℕ
clause_line c = flat_map literal_text c ++ (48 ∷ [])

header-line : (m : Model) → header_text m ≡ header_line m ++ (10 ∷ [])
unfolding header_text header_line
header-line m = refl

clause-line : (c : List Literal) → clause_text c ≡ clause_line c ++ (10 ∷ [])
unfolding clause_text clause_line
clause-line c = sym (append_assoc (flat_map literal_text c) (48 ∷ []) (10 ∷ []))

literal-word : (l : Literal) → literal_text l ≡ literal_word l ++ (32 ∷ [])
unfolding literal_text literal_word
literal-word (Pos v) = refl
literal-word (Neg v) = refl

pub listing-parts : (m : Model) → listing m ≡ header_text m ++ flat_map clause_text (clauses m)
unfolding listing block_text clauses
listing-parts m =
    ap (λ (k : ℕ). flat_map (block_text m) (range 0 k)) (add-one (block_count m))
    ∙ ap (λ (l : List ℕ). header_text m ++ l)
    (each-range_ext (block_text m) (λ b. flat_map clause_text (block_clauses m b)) 1 (block_count m)
    (λ b l k. let e : eqb b 0 ≡ false = ne_eqb b 0 (λ z. omega arith) in rw e)
    ∙ sym (each-each clause_text (block_clauses m) (range 1 (block_count m))))

-- ---- bytes

abbrev Printed : ℕ → Type 0
Printed b = (32 ≤ b) × (b ≤ 57)

digits-printed : (v : ℕ) → All Printed (decimal v)
digits-printed v =
    all-imp (λ b. (48 ≤ b) × (b ≤ 57)) Printed (λ b h. let l = h.0 in let u = h.1 in (omega arith, omega arith)) (decimal v) (decimal-digits v)

line-printed : (c : List Literal) → All Printed (clause_line c)
unfolding clause_line literal_text
line-printed c =
    (all_both Printed (flat_map literal_text c) (48 ∷ [])).1
    (all-each Printed literal_text c (all_of (λ l. All Printed (literal_text l)) one c), ((omega arith, omega arith), tt))
  where
    one : (l : Literal) → All Printed (literal_text l)
    one (Pos v) = (all_both Printed (decimal v) (32 ∷ [])).1 (digits-printed v, ((omega arith, omega arith), tt))
    one (Neg v) = ((omega arith, omega arith), (all_both Printed (decimal v) (32 ∷ [])).1 (digits-printed v, ((omega arith, omega arith), tt)))

-- ---- lines

pub line-cut : (l rest : List ℕ) → All (λ b. 32 ≤ b) l → lines_of (l ++ (10 ∷ rest)) ≡ l ∷ lines_of rest
line-cut [] rest h = refl
line-cut (b ∷ l) rest h =
    let e : eqb b 10 ≡ false = ne_eqb b 10 (λ z. let k = h.0 in omega arith) in
    rw (e, line-cut l rest h.1)

lines_of_lem : (cs : List (List Literal)) → lines_of (flat_map clause_text cs) ≡ map clause_line cs
lines_of_lem [] = refl
lines_of_lem (c ∷ cs) =
    ap (λ (l : List ℕ). lines_of (l ++ flat_map clause_text cs)) (clause-line c)
    ∙ ap lines_of (append_assoc (clause_line c) (10 ∷ []) (flat_map clause_text cs))
    ∙ line-cut (clause_line c) (flat_map clause_text cs) (all-imp Printed (λ b. 32 ≤ b) (λ b h. h.0) (clause_line c) (line-printed c))
    ∙ ap {B = List (List ℕ)} (λ l. clause_line c ∷ l) (lines_of_lem cs)

header-printed : (m : Model) → All (λ b. 32 ≤ b) (header_line m)
unfolding header_line
header-printed m =
    let P : ℕ → Type 0 = λ b. 32 ≤ b in
    let d : (v : ℕ) → All P (decimal v) = λ v. all-imp Printed P (λ b h. h.0) (decimal v) (digits-printed v) in
    let vs = decimal (variable_count m) in
    let ks = decimal (clause_count m) in
    let h : List ℕ = 112 ∷ 32 ∷ 99 ∷ 110 ∷ 102 ∷ 32 ∷ [] in
    (all_both P (h ++ vs ++ (32 ∷ [])) ks).1 (
      (all_both P (h ++ vs) (32 ∷ [])).1 (
        (all_both P h vs).1 ((omega arith, (omega arith, (omega arith, (omega arith, (omega arith, (omega arith, tt)))))), d (variable_count m)),
        (omega arith, tt),
      ),
      d (clause_count m),
    )

text-lines : (m : Model) (cs : List (List Literal)) → lines_of (header_text m ++ flat_map clause_text cs) ≡ header_line m ∷ map clause_line cs
text-lines m cs =
    ap (λ (l : List ℕ). lines_of (l ++ flat_map clause_text cs)) (header-line m)
    ∙ ap lines_of (append_assoc (header_line m) (10 ∷ []) (flat_map clause_text cs))
    ∙ line-cut (header_line m) (flat_map clause_text cs) (header-printed m)
    ∙ ap {B = List (List ℕ)} (λ l. header_line m ∷ l) (lines_of_lem cs)

no_comments : (m : Model) (cs : List (List Literal))
    → those (λ l. not (is_comment l)) (header_line m ∷ map clause_line cs) ≡ header_line m ∷ map clause_line cs
unfolding is_comment header_line
no_comments m cs =
    those-all (λ l. not (is_comment l)) (header_line m ∷ map clause_line cs)
    (tt, (all-map-iff (λ l. T (not (is_comment l))) clause_line cs).1 (all_of (λ c. T (not (is_comment (clause_line c)))) (λ c. printed (clause_line c) (line-printed c)) cs))
  where
    printed : (l : List ℕ) → All Printed l → T (not (eqb (get_or l 0 0) 99))
    printed [] h = tt
    printed (b ∷ l) h = let e : eqb b 99 ≡ false = ne_eqb b 99 (λ z. let k = h.0.1 in omega arith) in rw e tt

-- ---- words

abbrev Solid : ℕ → Type 0
Solid b = (33 ≤ b)

not-blank : (b : ℕ) → 33 ≤ b → is_blank b ≡ false
unfolding is_blank
not-blank b h =
    let x : eqb b 32 ≡ false = ne_eqb b 32 (λ z. omega arith) in
    let y : eqb b 9 ≡ false = ne_eqb b 9 (λ z. omega arith) in
    let w : eqb b 13 ≡ false = ne_eqb b 13 (λ z. omega arith) in
    rw (x, y, w)

piece_cut : (w rest : List ℕ) → All Solid w → pieces (w ++ (32 ∷ rest)) ≡ w ∷ pieces rest
piece_cut [] rest h = unfold is_blank in refl
piece_cut (b ∷ w) rest h = rw (not-blank b h.0, piece_cut w rest h.1)

piece_last : (w : List ℕ) → 0 < length w → All Solid w → pieces w ≡ w ∷ []
piece_last [] l h = absurd (omega arith)
piece_last (b ∷ []) l h = rw (not-blank b h.0)
piece_last (b ∷ c ∷ w) l h = rw (not-blank b h.0) (ap (on_first b) (piece_last (c ∷ w) (omega arith) h.1))

digits_solid : (v : ℕ) → All Solid (decimal v)
digits_solid v = all-imp (λ b. (48 ≤ b) × (b ≤ 57)) Solid (λ b h. let k = h.0 in omega arith) (decimal v) (decimal-digits v)

word_solid : (l : Literal) → All Solid (literal_word l)
unfolding literal_word
word_solid (Pos v) = digits_solid v
word_solid (Neg v) = (omega arith, digits_solid v)

filled : (w : List ℕ) → 0 < length w → T (not (is_empty w))
filled [] h = absurd (omega arith)
filled (b ∷ w) h = tt

word-filled : (l : Literal) → T (not (is_empty (literal_word l)))
unfolding literal_word
word-filled (Pos v) = filled (decimal v) (decimal-some v)
word-filled (Neg v) = tt

pub clause-tokens : (c : List Literal) → tokens (clause_line c) ≡ map literal_word c ++ ((48 ∷ []) ∷ [])
unfolding tokens clause_line
clause-tokens c =
    ap (those (λ w. not (is_empty w))) (words c)
    ∙ those-all (λ w. not (is_empty w)) (map literal_word c ++ ((48 ∷ []) ∷ []))
    ((all_both (λ w. T (not (is_empty w))) (map literal_word c) ((48 ∷ []) ∷ [])).1
    ((all-map-iff (λ w. T (not (is_empty w))) literal_word c).1 (all_of (λ l. T (not (is_empty (literal_word l)))) word-filled c), (tt, tt)))
  where
    words : (c : List Literal) → pieces (flat_map literal_text c ++ (48 ∷ [])) ≡ map literal_word c ++ ((48 ∷ []) ∷ [])
    words [] = piece_last (48 ∷ []) (omega arith) (omega arith, tt)
    words (l ∷ c) =
        ap (λ (w : List ℕ). pieces (w ++ flat_map literal_text c ++ (48 ∷ []))) (literal-word l)
        ∙ ap pieces (append_assoc (literal_word l ++ (32 ∷ [])) (flat_map literal_text c) (48 ∷ []) ∙ append_assoc (literal_word l) (32 ∷ []) (flat_map literal_text c ++ (48 ∷ [])))
        ∙ piece_cut (literal_word l) (flat_map literal_text c ++ (48 ∷ [])) (word_solid l)
        ∙ ap {B = List (List ℕ)} (λ ws. literal_word l ∷ ws) (words c)

-- block 0's line is the words p, cnf, V and C
pub header-tokens : (m : Model)
    → tokens (header_line m) ≡ (112 ∷ []) ∷ (99 ∷ 110 ∷ 102 ∷ []) ∷ decimal (variable_count m) ∷ decimal (clause_count m) ∷ []
unfolding tokens header_line is_blank
header-tokens m =
    let vs = decimal (variable_count m) in
    let ks = decimal (clause_count m) in
    let e : pieces (vs ++ (32 ∷ []) ++ ks) ≡ vs ∷ ks ∷ [] =
    ap pieces (append_assoc vs (32 ∷ []) ks) ∙ piece_cut vs ks (digits_solid (variable_count m))
    ∙ ap {B = List (List ℕ)} (λ ws. vs ∷ ws) (piece_last ks (decimal-some (clause_count m)) (digits_solid (clause_count m))) in
    rw e
    (those-all (λ w. not (is_empty w)) ((112 ∷ []) ∷ (99 ∷ 110 ∷ 102 ∷ []) ∷ vs ∷ ks ∷ [])
    (tt, (tt, (filled vs (decimal-some (variable_count m)), (filled ks (decimal-some (clause_count m)), tt)))))

-- ---- numbers

number_digits : (ds : List ℕ) → 0 < length ds → All (λ b. (48 ≤ b) × (b ≤ 57)) ds → number ds ≡ signed_number Pos (natural ds)
unfolding number
number_digits [] l h = absurd (omega arith)
number_digits (b ∷ ds) l h = let e : eqb b 45 ≡ false = ne_eqb b 45 (λ z. let k = h.0.0 in omega arith) in rw e

word_number : (l : Literal) → 1 ≤ variable l → number (literal_word l) ≡ literal l
unfolding literal_word number
word_number (Pos v) h = number_digits (decimal v) (decimal-some v) (decimal-digits v) ∙ ap (signed_number Pos) (decimal-natural v) ∙ go v h
  where
    go : (v : ℕ) → 1 ≤ v → signed_number Pos (Some v) ≡ literal (Pos v)
    go zero h = absurd (omega arith)
    go (suc v) h = refl
word_number (Neg v) h = ap (signed_number Neg) (decimal-natural v) ∙ go v h
  where
    go : (v : ℕ) → 1 ≤ v → signed_number Neg (Some v) ≡ literal (Neg v)
    go zero h = absurd (omega arith)
    go (suc v) h = refl

zero_number : number (48 ∷ []) ≡ end
unfolding number natural
zero_number = refl

-- ---- clauses

clause-read : (begun c : List Literal) (ws : List (List ℕ)) → All (λ l. 1 ≤ variable l) c
    → clauses_from begun (map literal_word c ++ ((48 ∷ []) ∷ ws)) ≡ more (begun ++ c) end (clauses_from [] ws)
clause-read begun [] ws h = rw (zero_number, append-nil begun)
clause-read begun (l ∷ c) ws h =
    rw (word_number l h.0)
    (clause-read (begun ++ (l ∷ [])) c ws h.1 ∙ ap (λ (b : List Literal). more b end (clauses_from [] ws)) (append_assoc begun (l ∷ []) c))

clauses-read : (cs : List (List Literal)) → All (All (λ l. 1 ≤ variable l)) cs → clauses_from [] (flat_map tokens (map clause_line cs)) ≡ Some cs
clauses-read [] h = refl
clauses-read (c ∷ cs) h =
    ap (λ (ws : List (List ℕ)). clauses_from [] (ws ++ flat_map tokens (map clause_line cs))) (clause-tokens c)
    ∙ ap (clauses_from []) (append_assoc (map literal_word c) ((48 ∷ []) ∷ []) (flat_map tokens (map clause_line cs)))
    ∙ clause-read [] c (flat_map tokens (map clause_line cs)) h.0
    ∙ ap (more c end) (clauses-read cs h.1)

-- ---- the whole text

-- what a text says with the header of m and some clauses
pub text-reads : (m : Model) (cs : List (List Literal)) → All (All (λ l. 1 ≤ variable l)) cs
    → read_dimacs (header_text m ++ flat_map clause_text cs)
    ≡ Some (record { variables = variable_count m; clause_count = clause_count m; clauses = cs })
unfolding read_dimacs with_header
text-reads m cs h =
    ap (λ (ls : List (List ℕ)). formula_of (those (λ l. not (is_comment l)) ls)) (text-lines m cs)
    ∙ ap formula_of (no_comments m cs)
    ∙ ap (λ (ws : List (List ℕ)). with_header ws (clauses_from [] (flat_map tokens (map clause_line cs)))) (header-tokens m)
    ∙ rw (decimal-natural (variable_count m), decimal-natural (clause_count m), clauses-read cs h)

-- block 0 alone reads as V and C
pub header-reads : (m : Model) → read_dimacs (block_text m 0) ≡ Some (record { variables = variable_count m; clause_count = clause_count m; clauses = [] })
unfolding block_text
header-reads m = ap read_dimacs (sym (append-nil (header_text m))) ∙ text-reads m [] tt

-- the listing reads as V, C and the clauses
pub listing-reads : (m : Model) → Settled m
    → read_dimacs (listing m) ≡ Some (record { variables = variable_count m; clause_count = clause_count m; clauses = clauses m })
listing-reads m q =
    ap read_dimacs (listing-parts m)
    ∙ text-reads m (clauses m)
    (all-imp (All (In 1 (suc (variable_count m)))) (All (λ l. 1 ≤ variable l))
    (λ c h. all-imp (In 1 (suc (variable_count m))) (λ l. 1 ≤ variable l) (λ l k. k.0) c h) (clauses m) (variables-in m q))

-- ---- document 01's division: the same bytes

pub same-listing : (m : Model) → Settled m → SameListing m
unfolding listing_by_group
same-listing m q = record {
  groups = group-whole m q;
  bytes =
      listing-parts m
      ∙ ap (λ (cs : List (List Literal)). header_text m ++ flat_map clause_text cs) (sym (by-group-parts m q))
      ∙ ap (λ (text : List ℕ). header_text m ++ text) (each-each clause_text (clauses_by_group m) (range 1 (m.s + m.c)));
}
