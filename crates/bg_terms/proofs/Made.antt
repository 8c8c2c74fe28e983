-- What the trees say, where they are made of their parts.
use Rattle.std.proofs.Common.{◌≡◌}
use Rattle.bg_trees.specs.declared.expressions.SynA.TheOpen.{SynA-F, SynK-F, SynN1-F, SynC-F, SynC1Item-F, SynE-F, SynE1Item-F, SynM-F, SynM1Item-F, SynN-F, SynP-F, SynP1Item-F}
use Rattle.bg_trees.specs.declared.expressions.SynA.TheFolds.{map-SynA, map-SynK, map-SynN1, map-SynC, map-SynC1Item, map-SynE, map-SynE1Item, map-SynM, map-SynM1Item, map-SynN, map-SynP, map-SynP1Item, fold-roll-SynA, fold-roll-SynK, fold-roll-SynN1, fold-roll-SynC, fold-roll-SynC1Item, fold-roll-SynE, fold-roll-SynE1Item, fold-roll-SynM, fold-roll-SynM1Item, fold-roll-SynN, fold-roll-SynP, fold-roll-SynP1Item}
use Rattle.bg_trees.specs.declared.expressions.SynA.TheViews.{roll-SynA, roll-SynK, roll-SynN1, roll-SynC, roll-SynC1Item, roll-SynE, roll-SynE1Item, roll-SynM, roll-SynM1Item, roll-SynN, roll-SynP, roll-SynP1Item}
use Rattle.bg_trees.specs.declared.expressions.SynA.{SynA}
use Rattle.bg_trees.specs.declared.expressions.SynK.{SynK}
use Rattle.bg_trees.specs.declared.expressions.SynN1.{SynN1}
use Rattle.bg_trees.specs.declared.expressions.SynC.{SynC}
use Rattle.bg_trees.specs.declared.expressions.SynC1Item.{SynC1Item}
use Rattle.bg_trees.specs.declared.expressions.SynE.{SynE}
use Rattle.bg_trees.specs.declared.expressions.SynE1Item.{SynE1Item}
use Rattle.bg_trees.specs.declared.expressions.SynM.{SynM}
use Rattle.bg_trees.specs.declared.expressions.SynM1Item.{SynM1Item}
use Rattle.bg_trees.specs.declared.expressions.SynN.{SynN}
use Rattle.bg_trees.specs.declared.expressions.SynP.{SynP}
use Rattle.bg_trees.specs.declared.expressions.SynP1Item.{SynP1Item}
use Rattle.bg_terms.specs.Trees.{Form, Reading, Behind, Onward}
use Rattle.bg_terms.specs.Trees.{a_layer, k_layer, n1_layer, c_layer, c1_item_layer, e_layer, e1_item_layer, m_layer, m1_item_layer, n_layer, p_layer, p1_item_layer}
use Rattle.bg_terms.specs.Trees.{a_read, k_read, n1_read, c_read, c1_item_read, e_read, e1_item_read, m_read, m1_item_read, n_read, p_read, p1_item_read}

pub a_made : (x : SynA-F SynA SynK SynN1 SynC SynC1Item SynE SynE1Item SynM SynM1Item SynN SynP SynP1Item)
    → a_read (roll-SynA x)
    ≡ a_layer (map-SynA SynA SynK SynN1 SynC SynC1Item SynE SynE1Item SynM SynM1Item SynN SynP SynP1Item
    Form Reading Behind Reading Onward Reading Onward Reading Onward Reading Reading Onward
    a_read k_read n1_read c_read c1_item_read e_read e1_item_read m_read m1_item_read n_read p_read p1_item_read x)
unfolding a_read k_read n1_read c_read c1_item_read e_read e1_item_read m_read m1_item_read n_read p_read p1_item_read
a_made =
    fold-roll-SynA Form Reading Behind Reading Onward Reading Onward Reading Onward Reading Reading Onward
    a_layer k_layer n1_layer c_layer c1_item_layer e_layer e1_item_layer m_layer m1_item_layer n_layer p_layer p1_item_layer

pub k_made : (x : SynK-F SynA SynK SynN1 SynC SynC1Item SynE SynE1Item SynM SynM1Item SynN SynP SynP1Item)
    → k_read (roll-SynK x)
    ≡ k_layer (map-SynK SynA SynK SynN1 SynC SynC1Item SynE SynE1Item SynM SynM1Item SynN SynP SynP1Item
    Form Reading Behind Reading Onward Reading Onward Reading Onward Reading Reading Onward
    a_read k_read n1_read c_read c1_item_read e_read e1_item_read m_read m1_item_read n_read p_read p1_item_read x)
unfolding a_read k_read n1_read c_read c1_item_read e_read e1_item_read m_read m1_item_read n_read p_read p1_item_read
k_made =
    fold-roll-SynK Form Reading Behind Reading Onward Reading Onward Reading Onward Reading Reading Onward
    a_layer k_layer n1_layer c_layer c1_item_layer e_layer e1_item_layer m_layer m1_item_layer n_layer p_layer p1_item_layer

pub n1_made : (x : SynN1-F SynA SynK SynN1 SynC SynC1Item SynE SynE1Item SynM SynM1Item SynN SynP SynP1Item)
    → n1_read (roll-SynN1 x)
    ≡ n1_layer (map-SynN1 SynA SynK SynN1 SynC SynC1Item SynE SynE1Item SynM SynM1Item SynN SynP SynP1Item
    Form Reading Behind Reading Onward Reading Onward Reading Onward Reading Reading Onward
    a_read k_read n1_read c_read c1_item_read e_read e1_item_read m_read m1_item_read n_read p_read p1_item_read x)
unfolding a_read k_read n1_read c_read c1_item_read e_read e1_item_read m_read m1_item_read n_read p_read p1_item_read
n1_made =
    fold-roll-SynN1 Form Reading Behind Reading Onward Reading Onward Reading Onward Reading Reading Onward
    a_layer k_layer n1_layer c_layer c1_item_layer e_layer e1_item_layer m_layer m1_item_layer n_layer p_layer p1_item_layer

pub c_made : (x : SynC-F SynA SynK SynN1 SynC SynC1Item SynE SynE1Item SynM SynM1Item SynN SynP SynP1Item)
    → c_read (roll-SynC x)
    ≡ c_layer (map-SynC SynA SynK SynN1 SynC SynC1Item SynE SynE1Item SynM SynM1Item SynN SynP SynP1Item
    Form Reading Behind Reading Onward Reading Onward Reading Onward Reading Reading Onward
    a_read k_read n1_read c_read c1_item_read e_read e1_item_read m_read m1_item_read n_read p_read p1_item_read x)
unfolding a_read k_read n1_read c_read c1_item_read e_read e1_item_read m_read m1_item_read n_read p_read p1_item_read
c_made =
    fold-roll-SynC Form Reading Behind Reading Onward Reading Onward Reading Onward Reading Reading Onward
    a_layer k_layer n1_layer c_layer c1_item_layer e_layer e1_item_layer m_layer m1_item_layer n_layer p_layer p1_item_layer

pub c1_item_made : (x : SynC1Item-F SynA SynK SynN1 SynC SynC1Item SynE SynE1Item SynM SynM1Item SynN SynP SynP1Item)
    → c1_item_read (roll-SynC1Item x)
    ≡ c1_item_layer (map-SynC1Item SynA SynK SynN1 SynC SynC1Item SynE SynE1Item SynM SynM1Item SynN SynP SynP1Item
    Form Reading Behind Reading Onward Reading Onward Reading Onward Reading Reading Onward
    a_read k_read n1_read c_read c1_item_read e_read e1_item_read m_read m1_item_read n_read p_read p1_item_read x)
unfolding a_read k_read n1_read c_read c1_item_read e_read e1_item_read m_read m1_item_read n_read p_read p1_item_read
c1_item_made =
    fold-roll-SynC1Item Form Reading Behind Reading Onward Reading Onward Reading Onward Reading Reading Onward
    a_layer k_layer n1_layer c_layer c1_item_layer e_layer e1_item_layer m_layer m1_item_layer n_layer p_layer p1_item_layer

pub e_made : (x : SynE-F SynA SynK SynN1 SynC SynC1Item SynE SynE1Item SynM SynM1Item SynN SynP SynP1Item)
    → e_read (roll-SynE x)
    ≡ e_layer (map-SynE SynA SynK SynN1 SynC SynC1Item SynE SynE1Item SynM SynM1Item SynN SynP SynP1Item
    Form Reading Behind Reading Onward Reading Onward Reading Onward Reading Reading Onward
    a_read k_read n1_read c_read c1_item_read e_read e1_item_read m_read m1_item_read n_read p_read p1_item_read x)
unfolding a_read k_read n1_read c_read c1_item_read e_read e1_item_read m_read m1_item_read n_read p_read p1_item_read
e_made =
    fold-roll-SynE Form Reading Behind Reading Onward Reading Onward Reading Onward Reading Reading Onward
    a_layer k_layer n1_layer c_layer c1_item_layer e_layer e1_item_layer m_layer m1_item_layer n_layer p_layer p1_item_layer

pub e1_item_made : (x : SynE1Item-F SynA SynK SynN1 SynC SynC1Item SynE SynE1Item SynM SynM1Item SynN SynP SynP1Item)
    → e1_item_read (roll-SynE1Item x)
    ≡ e1_item_layer (map-SynE1Item SynA SynK SynN1 SynC SynC1Item SynE SynE1Item SynM SynM1Item SynN SynP SynP1Item
    Form Reading Behind Reading Onward Reading Onward Reading Onward Reading Reading Onward
    a_read k_read n1_read c_read c1_item_read e_read e1_item_read m_read m1_item_read n_read p_read p1_item_read x)
unfolding a_read k_read n1_read c_read c1_item_read e_read e1_item_read m_read m1_item_read n_read p_read p1_item_read
e1_item_made =
    fold-roll-SynE1Item Form Reading Behind Reading Onward Reading Onward Reading Onward Reading Reading Onward
    a_layer k_layer n1_layer c_layer c1_item_layer e_layer e1_item_layer m_layer m1_item_layer n_layer p_layer p1_item_layer

pub m_made : (x : SynM-F SynA SynK SynN1 SynC SynC1Item SynE SynE1Item SynM SynM1Item SynN SynP SynP1Item)
    → m_read (roll-SynM x)
    ≡ m_layer (map-SynM SynA SynK SynN1 SynC SynC1Item SynE SynE1Item SynM SynM1Item SynN SynP SynP1Item
    Form Reading Behind Reading Onward Reading Onward Reading Onward Reading Reading Onward
    a_read k_read n1_read c_read c1_item_read e_read e1_item_read m_read m1_item_read n_read p_read p1_item_read x)
unfolding a_read k_read n1_read c_read c1_item_read e_read e1_item_read m_read m1_item_read n_read p_read p1_item_read
m_made =
    fold-roll-SynM Form Reading Behind Reading Onward Reading Onward Reading Onward Reading Reading Onward
    a_layer k_layer n1_layer c_layer c1_item_layer e_layer e1_item_layer m_layer m1_item_layer n_layer p_layer p1_item_layer

pub m1_item_made : (x : SynM1Item-F SynA SynK SynN1 SynC SynC1Item SynE SynE1Item SynM SynM1Item SynN SynP SynP1Item)
    → m1_item_read (roll-SynM1Item x)
    ≡ m1_item_layer (map-SynM1Item SynA SynK SynN1 SynC SynC1Item SynE SynE1Item SynM SynM1Item SynN SynP SynP1Item
    Form Reading Behind Reading Onward Reading Onward Reading Onward Reading Reading Onward
    a_read k_read n1_read c_read c1_item_read e_read e1_item_read m_read m1_item_read n_read p_read p1_item_read x)
unfolding a_read k_read n1_read c_read c1_item_read e_read e1_item_read m_read m1_item_read n_read p_read p1_item_read
m1_item_made =
    fold-roll-SynM1Item Form Reading Behind Reading Onward Reading Onward Reading Onward Reading Reading Onward
    a_layer k_layer n1_layer c_layer c1_item_layer e_layer e1_item_layer m_layer m1_item_layer n_layer p_layer p1_item_layer

pub n_made : (x : SynN-F SynA SynK SynN1 SynC SynC1Item SynE SynE1Item SynM SynM1Item SynN SynP SynP1Item)
    → n_read (roll-SynN x)
    ≡ n_layer (map-SynN SynA SynK SynN1 SynC SynC1Item SynE SynE1Item SynM SynM1Item SynN SynP SynP1Item
    Form Reading Behind Reading Onward Reading Onward Reading Onward Reading Reading Onward
    a_read k_read n1_read c_read c1_item_read e_read e1_item_read m_read m1_item_read n_read p_read p1_item_read x)
unfolding a_read k_read n1_read c_read c1_item_read e_read e1_item_read m_read m1_item_read n_read p_read p1_item_read
n_made =
    fold-roll-SynN Form Reading Behind Reading Onward Reading Onward Reading Onward Reading Reading Onward
    a_layer k_layer n1_layer c_layer c1_item_layer e_layer e1_item_layer m_layer m1_item_layer n_layer p_layer p1_item_layer

pub p_made : (x : SynP-F SynA SynK SynN1 SynC SynC1Item SynE SynE1Item SynM SynM1Item SynN SynP SynP1Item)
    → p_read (roll-SynP x)
    ≡ p_layer (map-SynP SynA SynK SynN1 SynC SynC1Item SynE SynE1Item SynM SynM1Item SynN SynP SynP1Item
    Form Reading Behind Reading Onward Reading Onward Reading Onward Reading Reading Onward
    a_read k_read n1_read c_read c1_item_read e_read e1_item_read m_read m1_item_read n_read p_read p1_item_read x)
unfolding a_read k_read n1_read c_read c1_item_read e_read e1_item_read m_read m1_item_read n_read p_read p1_item_read
p_made =
    fold-roll-SynP Form Reading Behind Reading Onward Reading Onward Reading Onward Reading Reading Onward
    a_layer k_layer n1_layer c_layer c1_item_layer e_layer e1_item_layer m_layer m1_item_layer n_layer p_layer p1_item_layer

pub p1_item_made : (x : SynP1Item-F SynA SynK SynN1 SynC SynC1Item SynE SynE1Item SynM SynM1Item SynN SynP SynP1Item)
    → p1_item_read (roll-SynP1Item x)
    ≡ p1_item_layer (map-SynP1Item SynA SynK SynN1 SynC SynC1Item SynE SynE1Item SynM SynM1Item SynN SynP SynP1Item
    Form Reading Behind Reading Onward Reading Onward Reading Onward Reading Reading Onward
    a_read k_read n1_read c_read c1_item_read e_read e1_item_read m_read m1_item_read n_read p_read p1_item_read x)
unfolding a_read k_read n1_read c_read c1_item_read e_read e1_item_read m_read m1_item_read n_read p_read p1_item_read
p1_item_made =
    fold-roll-SynP1Item Form Reading Behind Reading Onward Reading Onward Reading Onward Reading Reading Onward
    a_layer k_layer n1_layer c_layer c1_item_layer e_layer e1_item_layer m_layer m1_item_layer n_layer p_layer p1_item_layer
