-- What the trees say, layer by layer.
use Rattle.std.proofs.Common.{◌≡◌, ap, map}
use Rattle.bg_trees.specs.declared.expressions.SynC1Item.{SynC1Item}
use Rattle.bg_trees.specs.declared.expressions.SynE1Item.{SynE1Item, out-SynE1Item}
use Rattle.bg_trees.specs.declared.expressions.SynM1Item.{SynM1Item, out-SynM1Item}
use Rattle.bg_trees.specs.declared.expressions.SynP1Item.{SynP1Item, out-SynP1Item}
use Rattle.bg_trees.specs.declared.expressions.SynN.{SynN}
use Rattle.bg_trees.specs.declared.expressions.SynC.{SynC, out-SynC}
use Rattle.bg_trees.specs.declared.expressions.SynE.{SynE, out-SynE}
use Rattle.bg_trees.specs.declared.expressions.SynM.{SynM, out-SynM}
use Rattle.bg_trees.specs.declared.expressions.SynP.{SynP, out-SynP}
use Rattle.bg_trees.specs.declared.expressions.SynA.TheFolds.{fold_out-SynC1Item, fold_out-SynE1Item, fold_out-SynM1Item, fold_out-SynP1Item, fold_out-SynC, fold_out-SynE, fold_out-SynM, fold_out-SynP, fold_out-SynN}
use Rattle.bg_terms.specs.declared.shape.BinaryOperation.TheVariants.{Composition, Tensor, Parallel, Merge}
use Rattle.bg_terms.specs.Trees.{Form, Reading, Behind, Onward, Visible, binary_read, items_read, nested_read, a_layer, k_layer, n1_layer, c_layer, c1_item_layer, e_layer, e1_item_layer, m_layer, m1_item_layer, n_layer, p_layer, p1_item_layer}
use Rattle.bg_terms.specs.Trees.{a_read, k_read, n1_read, n_read, c_read, c1_item_read, m_read, m1_item_read, p_read, p1_item_read, e_read, e1_item_read}
use Rattle.bg_values.specs.Outcome.{◌>>=◌}

pub c1_item_says : (item : SynC1Item) → c1_item_read item ≡ binary_read Composition item.part1 (k_read item.part2.value)
unfolding c1_item_read k_read
c1_item_says item =
    fold_out-SynC1Item Form Reading Behind Reading Onward Reading Onward Reading Onward Reading Reading Onward
    a_layer k_layer n1_layer c_layer c1_item_layer e_layer e1_item_layer m_layer m1_item_layer n_layer p_layer p1_item_layer item

pub c_says : (tree : SynC) (visible : Visible)
    → (c_read tree).1 visible ≡ (k_read (out-SynC tree).part1.value).1 visible >>= items_read (map c1_item_read (out-SynC tree).part2.items) visible
unfolding c_read k_read c1_item_read
c_says tree visible = ap (λ r. r.1 visible)
    (fold_out-SynC Form Reading Behind Reading Onward Reading Onward Reading Onward Reading Reading Onward
    a_layer k_layer n1_layer c_layer c1_item_layer e_layer e1_item_layer m_layer m1_item_layer n_layer p_layer p1_item_layer tree)

pub m1_item_says : (item : SynM1Item) → m1_item_read item ≡ binary_read Merge (out-SynM1Item item).part1 (c_read (out-SynM1Item item).part2.value)
unfolding m1_item_read c_read
m1_item_says item =
    fold_out-SynM1Item Form Reading Behind Reading Onward Reading Onward Reading Onward Reading Reading Onward
    a_layer k_layer n1_layer c_layer c1_item_layer e_layer e1_item_layer m_layer m1_item_layer n_layer p_layer p1_item_layer item

pub m_says : (tree : SynM) (visible : Visible)
    → (m_read tree).1 visible ≡ (c_read (out-SynM tree).part1.value).1 visible >>= items_read (map m1_item_read (out-SynM tree).part2.items) visible
unfolding m_read c_read m1_item_read
m_says tree visible = ap (λ r. r.1 visible)
    (fold_out-SynM Form Reading Behind Reading Onward Reading Onward Reading Onward Reading Reading Onward
    a_layer k_layer n1_layer c_layer c1_item_layer e_layer e1_item_layer m_layer m1_item_layer n_layer p_layer p1_item_layer tree)

pub p1_item_says : (item : SynP1Item) → p1_item_read item ≡ binary_read Parallel (out-SynP1Item item).part1 (m_read (out-SynP1Item item).part2.value)
unfolding p1_item_read m_read
p1_item_says item =
    fold_out-SynP1Item Form Reading Behind Reading Onward Reading Onward Reading Onward Reading Reading Onward
    a_layer k_layer n1_layer c_layer c1_item_layer e_layer e1_item_layer m_layer m1_item_layer n_layer p_layer p1_item_layer item

pub p_says : (tree : SynP) (visible : Visible)
    → (p_read tree).1 visible ≡ (m_read (out-SynP tree).part1.value).1 visible >>= items_read (map p1_item_read (out-SynP tree).part2.items) visible
unfolding p_read m_read p1_item_read
p_says tree visible = ap (λ r. r.1 visible)
    (fold_out-SynP Form Reading Behind Reading Onward Reading Onward Reading Onward Reading Reading Onward
    a_layer k_layer n1_layer c_layer c1_item_layer e_layer e1_item_layer m_layer m1_item_layer n_layer p_layer p1_item_layer tree)

pub e1_item_says : (item : SynE1Item) → e1_item_read item ≡ binary_read Tensor (out-SynE1Item item).part1 (p_read (out-SynE1Item item).part2.value)
unfolding e1_item_read p_read
e1_item_says item =
    fold_out-SynE1Item Form Reading Behind Reading Onward Reading Onward Reading Onward Reading Reading Onward
    a_layer k_layer n1_layer c_layer c1_item_layer e_layer e1_item_layer m_layer m1_item_layer n_layer p_layer p1_item_layer item

pub e_says : (tree : SynE) (visible : Visible)
    → (e_read tree).1 visible ≡ (p_read (out-SynE tree).part1.value).1 visible >>= items_read (map e1_item_read (out-SynE tree).part2.items) visible
unfolding e_read p_read e1_item_read
e_says tree visible = ap (λ r. r.1 visible)
    (fold_out-SynE Form Reading Behind Reading Onward Reading Onward Reading Onward Reading Reading Onward
    a_layer k_layer n1_layer c_layer c1_item_layer e_layer e1_item_layer m_layer m1_item_layer n_layer p_layer p1_item_layer tree)

pub n_says : (tree : SynN) (visible : Visible)
    → (n_read tree).1 visible ≡ (a_read tree.part1.value).1 visible >>= nested_read ((a_read tree.part1.value).2 visible) (n1_read tree.part2.value) visible
unfolding n_read a_read n1_read
n_says tree visible = ap (λ r. r.1 visible)
    (fold_out-SynN Form Reading Behind Reading Onward Reading Onward Reading Onward Reading Reading Onward
    a_layer k_layer n1_layer c_layer c1_item_layer e_layer e1_item_layer m_layer m1_item_layer n_layer p_layer p1_item_layer tree)

pub n_first : (tree : SynN) → (n_read tree).0 ≡ (a_read tree.part1.value).0
unfolding n_read a_read
n_first tree = ap (λ r. r.0)
    (fold_out-SynN Form Reading Behind Reading Onward Reading Onward Reading Onward Reading Reading Onward
    a_layer k_layer n1_layer c_layer c1_item_layer e_layer e1_item_layer m_layer m1_item_layer n_layer p_layer p1_item_layer tree)
