-- The grammar of the model language, as data. Written by tools/grammar.py.
use Rattle.std.specs.Prelude.{Bool, true, false, List, [], ◌∷◌}
use Rattle.bg_text.specs.declared.token.TokenKind.{TokenKind}
use Rattle.bg_text.specs.declared.token.TokenKind.TheVariants as kinds
use Rattle.bg_syntax.specs.declared.symbol.Symbol.{Symbol}
use Rattle.bg_syntax.specs.declared.symbol.Symbol.TheVariants as symbols
use Rattle.bg_grammar.specs.Grammar.{Part, kind, symbol, Grammar}
use Rattle.bg_syntax.specs.Numbers.{kind_number, symbol_number}

-- a kind of token as a part
abbrev pub k : TokenKind → Part
k x = kind (kind_number x)

-- a symbol as a part
abbrev pub s : Symbol → Part
s x = symbol (symbol_number x)

-- the alternatives of each symbol, in the order of the symbols
unfoldable pub model_ways : List (List (List Part))
model_ways =
    -- Model = Stmts Block
    ((s symbols.Stmts ∷ s symbols.Block ∷ []) ∷ []) ∷
    -- Stmts = Stmt Stmts | none
    ((s symbols.Stmt ∷ s symbols.Stmts ∷ []) ∷ [] ∷ []) ∷
    -- Stmt = atomic Fun ctrl Control | fun AfterFun | ctrl Control | big Bigraph | react React | Param
    ((k kinds.KwAtomic ∷ s symbols.Fun ∷ k kinds.KwCtrl ∷ s symbols.Control ∷ []) ∷ (k kinds.KwFun ∷ s symbols.AfterFun ∷ []) ∷ (k kinds.KwCtrl ∷ s symbols.Control ∷ []) ∷ (k kinds.KwBig ∷ s symbols.Bigraph ∷ []) ∷ (k kinds.KwReact ∷ s symbols.React ∷ []) ∷ (s symbols.Param ∷ []) ∷ []) ∷
    -- Fun = fun | none
    ((k kinds.KwFun ∷ []) ∷ [] ∷ []) ∷
    -- AfterFun = atomic ctrl Control | ctrl Control | big Bigraph | react React
    ((k kinds.KwAtomic ∷ k kinds.KwCtrl ∷ s symbols.Control ∷ []) ∷ (k kinds.KwCtrl ∷ s symbols.Control ∷ []) ∷ (k kinds.KwBig ∷ s symbols.Bigraph ∷ []) ∷ (k kinds.KwReact ∷ s symbols.React ∷ []) ∷ []) ∷
    -- Control = upper Formals "=" Number ";"
    ((k kinds.Upper ∷ s symbols.Formals ∷ k kinds.Equals ∷ s symbols.Number ∷ k kinds.Semicolon ∷ []) ∷ []) ∷
    -- Bigraph = lower Formals "=" E ";"
    ((k kinds.Lower ∷ s symbols.Formals ∷ k kinds.Equals ∷ s symbols.E ∷ k kinds.Semicolon ∷ []) ∷ []) ∷
    -- React = lower Formals "=" E "-->" E Tail ";"
    ((k kinds.Lower ∷ s symbols.Formals ∷ k kinds.Equals ∷ s symbols.E ∷ k kinds.Arrow ∷ s symbols.E ∷ s symbols.Tail ∷ k kinds.Semicolon ∷ []) ∷ []) ∷
    -- Tail = Eta IfTail | Cond EtaTail | none
    ((s symbols.Eta ∷ s symbols.IfTail ∷ []) ∷ (s symbols.Cond ∷ s symbols.EtaTail ∷ []) ∷ [] ∷ []) ∷
    -- IfTail = Cond | none
    ((s symbols.Cond ∷ []) ∷ [] ∷ []) ∷
    -- EtaTail = Eta | none
    ((s symbols.Eta ∷ []) ∷ [] ∷ []) ∷
    -- Eta = "@" "[" Numbers "]"
    ((k kinds.At ∷ k kinds.OpenSquare ∷ s symbols.Numbers ∷ k kinds.CloseSquare ∷ []) ∷ []) ∷
    -- Numbers = Number MoreNum | none
    ((s symbols.Number ∷ s symbols.MoreNum ∷ []) ∷ [] ∷ []) ∷
    -- MoreNum = "," Number MoreNum | none
    ((k kinds.Comma ∷ s symbols.Number ∷ s symbols.MoreNum ∷ []) ∷ [] ∷ []) ∷
    -- Number = zero | one | num
    ((k kinds.Zero ∷ []) ∷ (k kinds.One ∷ []) ∷ (k kinds.Num ∷ []) ∷ []) ∷
    -- Cond = if Test Tests
    ((k kinds.KwIf ∷ s symbols.Test ∷ s symbols.Tests ∷ []) ∷ []) ∷
    -- Tests = "," Test Tests | none
    ((k kinds.Comma ∷ s symbols.Test ∷ s symbols.Tests ∷ []) ∷ [] ∷ []) ∷
    -- Test = Not E in Side
    ((s symbols.Not ∷ s symbols.E ∷ k kinds.KwIn ∷ s symbols.Side ∷ []) ∷ []) ∷
    -- Not = "!" | none
    ((k kinds.Bang ∷ []) ∷ [] ∷ []) ∷
    -- Side = ctx | param
    ((k kinds.KwCtx ∷ []) ∷ (k kinds.KwParam ∷ []) ∷ []) ∷
    -- Formals = "(" lower MoreLow ")" | none
    ((k kinds.OpenRound ∷ k kinds.Lower ∷ s symbols.MoreLow ∷ k kinds.CloseRound ∷ []) ∷ [] ∷ []) ∷
    -- MoreLow = "," lower MoreLow | none
    ((k kinds.Comma ∷ k kinds.Lower ∷ s symbols.MoreLow ∷ []) ∷ [] ∷ []) ∷
    -- Param = int lower "=" IntSet ";" | string lower "=" TextSet ";"
    ((k kinds.KwInt ∷ k kinds.Lower ∷ k kinds.Equals ∷ s symbols.IntSet ∷ k kinds.Semicolon ∷ []) ∷ (k kinds.KwString ∷ k kinds.Lower ∷ k kinds.Equals ∷ s symbols.TextSet ∷ k kinds.Semicolon ∷ []) ∷ []) ∷
    -- IntSet = "{" X MoreX "}" | "[" X ":" X ":" X "]" | X
    ((k kinds.OpenBrace ∷ s symbols.X ∷ s symbols.MoreX ∷ k kinds.CloseBrace ∷ []) ∷ (k kinds.OpenSquare ∷ s symbols.X ∷ k kinds.Colon ∷ s symbols.X ∷ k kinds.Colon ∷ s symbols.X ∷ k kinds.CloseSquare ∷ []) ∷ (s symbols.X ∷ []) ∷ []) ∷
    -- TextSet = "{" text MoreText "}" | text
    ((k kinds.OpenBrace ∷ k kinds.Text ∷ s symbols.MoreText ∷ k kinds.CloseBrace ∷ []) ∷ (k kinds.Text ∷ []) ∷ []) ∷
    -- MoreText = "," text MoreText | none
    ((k kinds.Comma ∷ k kinds.Text ∷ s symbols.MoreText ∷ []) ∷ [] ∷ []) ∷
    -- Block = begin brs Params init Ref ";" rules "=" "[" Classes "]" ";" Preds end | none
    ((k kinds.KwBegin ∷ k kinds.KwBrs ∷ s symbols.Params ∷ k kinds.KwInit ∷ s symbols.Ref ∷ k kinds.Semicolon ∷ k kinds.KwRules ∷ k kinds.Equals ∷ k kinds.OpenSquare ∷ s symbols.Classes ∷ k kinds.CloseSquare ∷ k kinds.Semicolon ∷ s symbols.Preds ∷ k kinds.KwEnd ∷ []) ∷ [] ∷ []) ∷
    -- Params = Param Params | none
    ((s symbols.Param ∷ s symbols.Params ∷ []) ∷ [] ∷ []) ∷
    -- Classes = Class MoreCl | none
    ((s symbols.Class ∷ s symbols.MoreCl ∷ []) ∷ [] ∷ []) ∷
    -- MoreCl = "," Class MoreCl | none
    ((k kinds.Comma ∷ s symbols.Class ∷ s symbols.MoreCl ∷ []) ∷ [] ∷ []) ∷
    -- Class = "{" Refs "}" | "(" Refs ")"
    ((k kinds.OpenBrace ∷ s symbols.Refs ∷ k kinds.CloseBrace ∷ []) ∷ (k kinds.OpenRound ∷ s symbols.Refs ∷ k kinds.CloseRound ∷ []) ∷ []) ∷
    -- Preds = preds "=" "{" Refs "}" ";" | none
    ((k kinds.KwPreds ∷ k kinds.Equals ∷ k kinds.OpenBrace ∷ s symbols.Refs ∷ k kinds.CloseBrace ∷ k kinds.Semicolon ∷ []) ∷ [] ∷ []) ∷
    -- Refs = Ref MoreRef | none
    ((s symbols.Ref ∷ s symbols.MoreRef ∷ []) ∷ [] ∷ []) ∷
    -- MoreRef = "," Ref MoreRef | none
    ((k kinds.Comma ∷ s symbols.Ref ∷ s symbols.MoreRef ∷ []) ∷ [] ∷ []) ∷
    -- Ref = lower Args
    ((k kinds.Lower ∷ s symbols.Args ∷ []) ∷ []) ∷
    -- Args = "(" X MoreX ")" | none
    ((k kinds.OpenRound ∷ s symbols.X ∷ s symbols.MoreX ∷ k kinds.CloseRound ∷ []) ∷ [] ∷ []) ∷
    -- MoreX = "," X MoreX | none
    ((k kinds.Comma ∷ s symbols.X ∷ s symbols.MoreX ∷ []) ∷ [] ∷ []) ∷
    -- E = P E1
    ((s symbols.P ∷ s symbols.E1 ∷ []) ∷ []) ∷
    -- E1 = "+" P E1 | none
    ((k kinds.Plus ∷ s symbols.P ∷ s symbols.E1 ∷ []) ∷ [] ∷ []) ∷
    -- P = M P1
    ((s symbols.M ∷ s symbols.P1 ∷ []) ∷ []) ∷
    -- P1 = "||" M P1 | none
    ((k kinds.BarBar ∷ s symbols.M ∷ s symbols.P1 ∷ []) ∷ [] ∷ []) ∷
    -- M = C M1
    ((s symbols.C ∷ s symbols.M1 ∷ []) ∷ []) ∷
    -- M1 = "|" C M1 | none
    ((k kinds.Bar ∷ s symbols.C ∷ s symbols.M1 ∷ []) ∷ [] ∷ []) ∷
    -- C = K C1
    ((s symbols.K ∷ s symbols.C1 ∷ []) ∷ []) ∷
    -- C1 = "*" K C1 | none
    ((k kinds.Star ∷ s symbols.K ∷ s symbols.C1 ∷ []) ∷ [] ∷ []) ∷
    -- K = "/" lower K | N
    ((k kinds.Slash ∷ k kinds.Lower ∷ s symbols.K ∷ []) ∷ (s symbols.N ∷ []) ∷ []) ∷
    -- N = A N1
    ((s symbols.A ∷ s symbols.N1 ∷ []) ∷ []) ∷
    -- N1 = "." K | none
    ((k kinds.Dot ∷ s symbols.K ∷ []) ∷ [] ∷ []) ∷
    -- A = upper Args Names | Ref | "{" NameList "}" | id IdTail | merge "(" Number ")" | zero | one | "(" E ")"
    ((k kinds.Upper ∷ s symbols.Args ∷ s symbols.Names ∷ []) ∷ (s symbols.Ref ∷ []) ∷ (k kinds.OpenBrace ∷ s symbols.NameList ∷ k kinds.CloseBrace ∷ []) ∷ (k kinds.KwId ∷ s symbols.IdTail ∷ []) ∷ (k kinds.KwMerge ∷ k kinds.OpenRound ∷ s symbols.Number ∷ k kinds.CloseRound ∷ []) ∷ (k kinds.Zero ∷ []) ∷ (k kinds.One ∷ []) ∷ (k kinds.OpenRound ∷ s symbols.E ∷ k kinds.CloseRound ∷ []) ∷ []) ∷
    -- Names = "{" NameList "}" | none
    ((k kinds.OpenBrace ∷ s symbols.NameList ∷ k kinds.CloseBrace ∷ []) ∷ [] ∷ []) ∷
    -- NameList = lower MoreLow | none
    ((k kinds.Lower ∷ s symbols.MoreLow ∷ []) ∷ [] ∷ []) ∷
    -- IdTail = "(" Number IdNames ")" | "{" NameList "}" | none
    ((k kinds.OpenRound ∷ s symbols.Number ∷ s symbols.IdNames ∷ k kinds.CloseRound ∷ []) ∷ (k kinds.OpenBrace ∷ s symbols.NameList ∷ k kinds.CloseBrace ∷ []) ∷ [] ∷ []) ∷
    -- IdNames = "," "{" NameList "}" | none
    ((k kinds.Comma ∷ k kinds.OpenBrace ∷ s symbols.NameList ∷ k kinds.CloseBrace ∷ []) ∷ [] ∷ []) ∷
    -- X = T X1
    ((s symbols.T ∷ s symbols.X1 ∷ []) ∷ []) ∷
    -- X1 = "+" T X1 | "-" T X1 | none
    ((k kinds.Plus ∷ s symbols.T ∷ s symbols.X1 ∷ []) ∷ (k kinds.Minus ∷ s symbols.T ∷ s symbols.X1 ∷ []) ∷ [] ∷ []) ∷
    -- T = U T1
    ((s symbols.U ∷ s symbols.T1 ∷ []) ∷ []) ∷
    -- T1 = "*" U T1 | "/" U T1 | none
    ((k kinds.Star ∷ s symbols.U ∷ s symbols.T1 ∷ []) ∷ (k kinds.Slash ∷ s symbols.U ∷ s symbols.T1 ∷ []) ∷ [] ∷ []) ∷
    -- U = Number | text | lower | "-" U | "(" X ")"
    ((s symbols.Number ∷ []) ∷ (k kinds.Text ∷ []) ∷ (k kinds.Lower ∷ []) ∷ (k kinds.Minus ∷ s symbols.U ∷ []) ∷ (k kinds.OpenRound ∷ s symbols.X ∷ k kinds.CloseRound ∷ []) ∷ []) ∷
    []

-- what stands below K (symbol 45) and U (symbol 57) is one deeper: these are the true ones, from 0
unfoldable pub model_deepens : List Bool
model_deepens = false ∷ false ∷ false ∷ false ∷ false ∷ false ∷ false ∷ false ∷ false ∷ false ∷ false ∷ false ∷ false ∷ false ∷ false ∷ false ∷ false ∷ false ∷ false ∷ false ∷ false ∷ false ∷ false ∷ false ∷ false ∷ false ∷ false ∷ false ∷ false ∷ false ∷ false ∷ false ∷ false ∷ false ∷ false ∷ false ∷ false ∷ false ∷ false ∷ false ∷ false ∷ false ∷ false ∷ false ∷ false ∷ true ∷ false ∷ false ∷ false ∷ false ∷ false ∷ false ∷ false ∷ false ∷ false ∷ false ∷ false ∷ true ∷ []

-- the grammar of the model language
unfoldable pub grammar : Grammar
grammar = record { ways = model_ways; deepens = model_deepens }
