mod BlockRead
mod BlockValued
mod Classes
mod Digits
mod Elaborated
mod ModelOrder
mod Labels
mod Numbers
mod Picked
mod ReferenceRead
mod Turns
mod UsesMade
pub mod SystemsKept
pub mod Described
mod Said
mod SaidRows
mod SaidFormulas
mod SaidExpressions
mod SaidStatements
mod SaidModels
mod Spelled
mod Leaves
mod TokensSpelled
mod Expected
mod ExpectedTerms
mod ExpectedUses
mod Fine
mod FineFormulas
mod FineExpressions
mod FineStatements
mod FineModels
mod FineTrees
mod OnlyGrammar
pub mod Readings
