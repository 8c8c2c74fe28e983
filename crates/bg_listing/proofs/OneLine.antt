-- The text of each kind of row is one line, and there is a row of each kind.
use Rattle.std.proofs.Common.{◌≡◌, ℕ, suc, ◌<◌, ◌≤◌, ◌^◌, Bool, true, false, cond, leb, List, [], ◌∷◌, ◌++◌, Result, Ok, Err, refl, sym, ap, subst, ◌∙◌, append_assoc, lit≤, arith}
use Rattle.std.specs.Prelude.{pos, negsuc}
use Rattle.std.specs.List.{list_all, AllByRecursion}
use Rattle.std.specs.Char.{is_ascii_digit}
use Rattle.std.specs.Fmt.{decimal}
use Rattle.std.proofs.lemmas.Bool.{and_parts, and_from}
use Rattle.std.proofs.lemmas.Fmt.{digits_decimal}
use Rattle.std.proofs.lemmas.List.Folds.{list_all-append}
use Rattle.bg_base.specs.Limits.{most_ports}
use Rattle.bg_base.specs.Spelling.{is_word_byte, is_text_byte}
use Rattle.bg_base.specs.declared.names.Name.{Name}
use Rattle.bg_base.specs.declared.names.Name.TheVariants.{Plain, Port, Opened}
use Rattle.bg_base.specs.declared.names.Place.{Place}
use Rattle.bg_base.specs.declared.names.Place.TheVariants.{Node, Region}
use Rattle.bg_base.specs.declared.names.Link.{Link}
use Rattle.bg_base.specs.declared.names.Link.TheVariants.{Edge, Outer}
use Rattle.bg_base.specs.declared.labels.Value.{Value}
use Rattle.bg_base.specs.declared.labels.Value.TheVariants.{Int, Words}
use Rattle.bg_base.specs.declared.labels.Label.{Label}
use Rattle.bg_base.specs.declared.signature.Kind.{Kind}
use Rattle.bg_base.specs.declared.signature.Kind.TheVariants.{Normal, Atomic}
use Rattle.bg_base.specs.declared.signature.Control.{Control}
use Rattle.bg_listing.specs.Spelling.{space, line_feed, comma, closing_bracket, chain_text, place_text, name_text, link_text, value_text, args_text, label_text, kind_text, edge_line, place_line, name_line, inner_line, control_line, count_line}
use Rattle.bg_listing.specs.Limits.{greatest_number, IsNumber, IsPlace, IsName, IsLink, IsInner, IsValue, IsLabel, IsControl}
use Rattle.bg_listing.specs.Combinators.{◌>>=◌, behind, line}
use Rattle.bg_listing.specs.Reading.{number_at, place_at, name_at, inner_at, control_at}
use Rattle.bg_listing.specs.Lines.{Bad, bad_line, too_many, or_bad_line, row, node_at, count_at, edge_row, place_row, name_row, inner_row, control_row, NodeParts, row_from_parts, node_row}
use Rattle.bg_listing.proofs.Numbers.{own, digits_all}
use Rattle.bg_listing.proofs.Listings.{count_reads, edge_row_reads, place_row_reads, name_row_reads, inner_row_reads, control_row_reads, node_row_reads, parts_line, AreParts}
use Rattle.bg_listing.proofs.Stopping.{is_inside, IsLine, Names, IsRow}

-- no line feed among the bytes
abbrev Free : List ℕ → Type 0
Free bytes = list_all is_inside bytes ≡ true

free_from : (p : ℕ → Bool) → ((b : ℕ) → p b ≡ true → is_inside b ≡ true) → (bytes : List ℕ) → list_all p bytes ≡ true → Free bytes
free_from p h [] e = refl
free_from p h (b ∷ bytes) e =
    let t = and_parts (p b) (list_all p bytes) e in
    and_from (is_inside b) (list_all is_inside bytes) (h b t.0) (free_from p h bytes t.1)

free_append : (xs ys : List ℕ) → Free xs → Free ys → Free (xs ++ ys)
free_append xs ys x y = list_all-append is_inside xs ys ∙ and_from (list_all is_inside xs) (list_all is_inside ys) x y

free_more : (b : ℕ) (bytes : List ℕ) → is_inside b ≡ true → Free bytes → Free (b ∷ bytes)
free_more b bytes e f = and_from (is_inside b) (list_all is_inside bytes) e f

-- ---- parts of lines

digit_inside : (b : ℕ) → is_ascii_digit b ≡ true → is_inside b ≡ true
digit_inside b e = grind arith

word_inside : (b : ℕ) → is_word_byte b ≡ true → is_inside b ≡ true
word_inside b e = grind arith

text_inside : (b : ℕ) → is_text_byte b ≡ true → is_inside b ≡ true
text_inside b e = grind arith

decimal_free : (n : ℕ) → n < 2 ^ 64 → Free (decimal n)
decimal_free n lt = free_from is_ascii_digit digit_inside (decimal n) (digits_all (decimal n) (digits_decimal own n lt))

number_free : (n : ℕ) → n ≤ greatest_number → Free (decimal n)
number_free n le = decimal_free n (omega arith)

place_free : (p : Place) → IsPlace p → Free (place_text p)
place_free (Node n) f = free_more 110 (decimal n) refl (number_free n f)
place_free (Region n) f = free_more 114 (decimal n) refl (number_free n f)

name_free : (n : Name) → IsName n → Free (name_text n)
name_free (Plain word) f = free_from is_word_byte word_inside word f.0
name_free (Port v i) f = free_more 64 (decimal v ++ 46 ∷ decimal i) refl (free_append (decimal v) (46 ∷ decimal i) (number_free v f.0) (free_more 46 (decimal i) refl (number_free i f.1)))
name_free (Opened e) f = free_more 126 (decimal e) refl (number_free e f)

link_free : (l : Link) → IsLink l → Free (link_text l)
link_free (Edge e) f = free_more 35 (decimal e) refl (number_free e f)
link_free (Outer n) f = free_more 61 (name_text n) refl (name_free n f)

value_free : (v : Value) → IsValue v → Free (value_text v)
value_free (Int (pos n)) f = decimal_free n (omega arith)
value_free (Int (negsuc n)) f = free_more 45 (decimal (suc n)) refl (decimal_free (suc n) (omega arith))
value_free (Words t) f = free_more 34 (t ++ 34 ∷ []) refl (free_append t (34 ∷ []) (free_from is_text_byte text_inside t f) refl)

values_free : (vs : List Value) → AllByRecursion IsValue vs → Free (chain_text closing_bracket comma value_text vs)
values_free [] f = refl
values_free (v ∷ vs) f = free_more 44 (value_text v ++ chain_text closing_bracket comma value_text vs) refl (free_append (value_text v) (chain_text closing_bracket comma value_text vs) (value_free v f.0) (values_free vs f.1))

args_free : (vs : List Value) → AllByRecursion IsValue vs → Free (args_text vs)
args_free [] f = refl
args_free (v ∷ vs) f = free_more 40 (value_text v ++ chain_text closing_bracket comma value_text vs) refl (free_append (value_text v) (chain_text closing_bracket comma value_text vs) (value_free v f.0) (values_free vs f.1))

label_free : (l : Label) → IsLabel l → Free (label_text l)
label_free l f = free_append l.name (args_text l.args) (free_from is_word_byte word_inside l.name f.0.0) (args_free l.args f.1)

kind_free : (k : Kind) → Free (kind_text k)
kind_free Normal = refl
kind_free Atomic = refl

-- ---- lines

one_line : (text : List ℕ) → Free text → IsLine (text ++ 10 ∷ [])
one_line text free = record { inside = text; text_is = refl; free = free }

in_front : (front text : List ℕ) → Free front → IsLine text → IsLine (front ++ text)
in_front front text free l = record {
  inside = front ++ l.inside;
  text_is = ap (λ t. front ++ t) l.text_is ∙ sym (append_assoc front l.inside (10 ∷ []));
  free = free_append front l.inside free l.free;
}

count_is_line : (word : List ℕ) → Free word → (n : ℕ) → n ≤ greatest_number → IsLine (count_line word n)
count_is_line word free n le = in_front word (decimal n ++ 10 ∷ []) free (one_line (decimal n) (number_free n le))

inner_is_line : (n : Name) (l : Link) → IsName n → IsLink l → IsLine ((name_text n ++ 32 ∷ link_text l) ++ 10 ∷ [])
inner_is_line n l fn fl = one_line (name_text n ++ 32 ∷ link_text l) (free_append (name_text n) (32 ∷ link_text l) (name_free n fn) (free_more 32 (link_text l) refl (link_free l fl)))

control_is_line : (c : Control) → IsControl c → IsLine (control_line c)
control_is_line c f =
    let le = f.arity in
    let small : c.arity ≤ greatest_number = omega arith in
    let kind : List ℕ = 32 ∷ kind_text c.kind in
    let arity : List ℕ = 32 ∷ (decimal c.arity ++ kind) in
    one_line (label_text c.label ++ arity) (free_append (label_text c.label) arity (label_free c.label f.label)
    (free_more 32 (decimal c.arity ++ kind) refl (free_append (decimal c.arity) kind (number_free c.arity small) (free_more 32 (kind_text c.kind) refl (kind_free c.kind)))))

links_are_line : (ls : List Link) → AllByRecursion IsLink ls → IsLine (chain_text line_feed space link_text ls)
links_are_line [] f = one_line [] refl
links_are_line (l ∷ ls) f = in_front (32 ∷ link_text l) (chain_text line_feed space link_text ls) (free_more 32 (link_text l) refl (link_free l f.0)) (links_are_line ls f.1)

parts_are_line : (p : NodeParts) → AreParts p → IsLine (parts_line p)
parts_are_line p f =
    let links : List ℕ = chain_text line_feed space link_text p.1.1.1 in
    let place : List ℕ = 32 ∷ (place_text p.1.1.0 ++ links) in
    in_front (decimal p.0) (32 ∷ (label_text p.1.0 ++ place)) (number_free p.0 f.0)
    (in_front (32 ∷ label_text p.1.0) place (free_more 32 (label_text p.1.0) refl (label_free p.1.0 f.1.0))
    (in_front (32 ∷ place_text p.1.1.0) links (free_more 32 (place_text p.1.1.0) refl (place_free p.1.1.0 f.1.1.0)) (links_are_line p.1.1.1 f.1.1.1)))

-- ---- a refusal names the beginning of the row

row_here_if : {X : Type 0} (bytes : List ℕ) (r : Result (X × List ℕ) (Unit {0})) (bad : Bad) → or_bad_line r bytes ≡ Err bad → Names bytes bad
row_here_if bytes (Ok x) bad e = absurd cc
row_here_if bytes (Err x) bad e = let same : bad_line bytes ≡ bad = cc in subst (Names bytes) same (refl, lit≤ tt)

row_here : {X : Type 0} (read : List ℕ → Result (X × List ℕ) (Unit {0})) (bytes : List ℕ) (bad : Bad) → row read bytes ≡ Err bad → Names bytes bad
row_here read bytes bad e = row_here_if bytes (read bytes) bad e

test_here : {X : Type 0} (bytes : List ℕ) (x : X × List ℕ) (passes : Bool) (bad : Bad) → cond passes (Ok x) (Err (too_many bytes)) ≡ Err bad → Names bytes bad
test_here bytes x true bad e = absurd cc
test_here bytes x false bad e = let same : too_many bytes ≡ bad = cc in subst (Names bytes) same (refl, lit≤ tt)

only_if_here : {X : Type 0} (test : X → Bool) (bytes : List ℕ) (r : Result (X × List ℕ) Bad) → ((bad : Bad) → r ≡ Err bad → Names bytes bad)
    → (bad : Bad) → (r >>= λ a. cond (test a.0) (Ok a) (Err (too_many bytes))) ≡ Err bad → Names bytes bad
only_if_here test bytes (Ok x) h bad e = test_here bytes x (test x.0) bad e
only_if_here test bytes (Err b) h bad e = h bad cc

count_here : (most : ℕ) (word bytes : List ℕ) (bad : Bad) → count_at most word bytes ≡ Err bad → Names bytes bad
unfolding count_at
count_here most word bytes bad e = only_if_here (λ n. leb n most) bytes (row (behind word (line (number_at greatest_number))) bytes) (row_here (behind word (line (number_at greatest_number))) bytes) bad e

control_here : (bytes : List ℕ) (bad : Bad) → control_row bytes ≡ Err bad → Names bytes bad
unfolding control_row
control_here bytes bad e = only_if_here (λ (c : Control). leb c.arity most_ports) bytes (row (line control_at) bytes) (row_here (line control_at) bytes) bad e

edge_here : (bytes : List ℕ) (bad : Bad) → edge_row bytes ≡ Err bad → Names bytes bad
unfolding edge_row
edge_here bytes bad e = row_here (line (number_at greatest_number)) bytes bad e

place_here : (bytes : List ℕ) (bad : Bad) → place_row bytes ≡ Err bad → Names bytes bad
unfolding place_row
place_here bytes bad e = row_here (line place_at) bytes bad e

name_here : (bytes : List ℕ) (bad : Bad) → name_row bytes ≡ Err bad → Names bytes bad
unfolding name_row
name_here bytes bad e = row_here (line name_at) bytes bad e

inner_here : (bytes : List ℕ) (bad : Bad) → inner_row bytes ≡ Err bad → Names bytes bad
unfolding inner_row
inner_here bytes bad e = row_here (line inner_at) bytes bad e

node_here : (signature : List Control) (bytes : List ℕ) (bad : Bad) → node_row signature bytes ≡ Err bad → Names bytes bad
unfolding node_row
node_here signature bytes bad e = row_here (node_at signature) bytes bad e

-- ---- the kinds of rows

pub count_row : (most : ℕ) (word : List ℕ) → most ≤ greatest_number → list_all is_inside word ≡ true → IsRow (λ n. n) (count_line word) (λ n. n ≤ most) (count_at most word)
count_row most word small free = record {
  reads = count_reads most word small;
  here = count_here most word;
  line = λ n le. count_is_line word free n (omega arith);
  some = 0;
  some_fits = omega arith;
}

pub edge_rows : IsRow (λ n. n) edge_line IsNumber edge_row
edge_rows = record { reads = edge_row_reads; here = edge_here; line = λ n f. one_line (decimal n) (number_free n f); some = 0; some_fits = lit≤ tt }

pub place_rows : IsRow (λ p. p) place_line IsPlace place_row
place_rows = record { reads = place_row_reads; here = place_here; line = λ p f. one_line (place_text p) (place_free p f); some = Region 0; some_fits = lit≤ tt }

pub name_rows : IsRow (λ n. n) name_line IsName name_row
name_rows = record { reads = name_row_reads; here = name_here; line = λ n f. one_line (name_text n) (name_free n f); some = Opened 0; some_fits = lit≤ tt }

pub inner_rows : IsRow (λ r. r) inner_line IsInner inner_row
inner_rows = record { reads = inner_row_reads; here = inner_here; line = λ r f. inner_is_line r.name r.link f.0 f.1; some = record { name = Opened 0; link = Edge 0 }; some_fits = (lit≤ tt, lit≤ tt) }

some_label : Label
some_label = record { name = 65 ∷ []; args = [] }

some_label_is : IsLabel some_label
unfolding some_label
some_label_is = ((refl, refl), tt)

pub control_rows : IsRow (λ c. c) control_line IsControl control_row
control_rows = record { reads = control_row_reads; here = control_here; line = control_is_line; some = record { label = some_label; arity = 0; kind = Normal }; some_fits = record { label = some_label_is; arity = lit≤ tt } }

pub node_rows : (signature : List Control) → IsRow (row_from_parts signature) parts_line AreParts (node_row signature)
node_rows signature = record { reads = node_row_reads signature; here = node_here signature; line = parts_are_line; some = (0, (some_label, (Region 0, []))); some_fits = (lit≤ tt, (some_label_is, (lit≤ tt, tt))) }
