-- The elements that a message needs, and those of a document that stand in their places.
--     rows         the named elements in the order of the slip, each with its parent's row
--     row_of        the row of an element by its parent's row and its name, `skipped` where it is none of them
--     is_text_row    whether an element's text is asked for: the five named texts
--     Named        a named element that was met: its row, its attributes, the text that it begins with, and whether that is all it holds
--     met          the named elements of an element whose parent has a row, in document order
-- Assumes nothing.
use Rattle.std.specs.Prelude.{ℕ, suc, Bool, true, false, ◌&&◌, ◌||◌, cond, List, [], ◌∷◌, ◌++◌, eqb}
use Prim.Native.String.{String}
use Rattle.fields.specs.Text.{text, same}
use Rattle.xml.specs.Tree.{Attribute, Tag, Element, self_closing, nesting, Content, last_text, text_then}

pub record Row : Type 0 where
  pub parent : ℕ
  pub name : List ℕ

abbrev row : ℕ → String → Row
row parent name = record { parent = parent; name = text name }

-- the root's parent; and the row of what is none of the named elements
abbrev pub outside : ℕ
outside = 16

abbrev pub skipped : ℕ
skipped = 17

-- 02, slip 3: one LBFastCdtTrf/FIToFICstmrCdtTrf message. It needs, in this order, GrpHdr/InstgAgt/FinInstnId/BIC, then in CdtTrfTxInf
-- PmtId/TxId, IntrBkSttlmAmt, CdtrAgt/FinInstnId/BIC and CdtrAcct/Id/IBAN
abbrev pub rows : List Row
rows =
    row outside "LBFastCdtTrf"
    ∷ row 0 "FIToFICstmrCdtTrf"
    ∷ row 1 "GrpHdr"
    ∷ row 2 "InstgAgt"
    ∷ row 3 "FinInstnId"
    ∷ row 4 "BIC"
    ∷ row 1 "CdtTrfTxInf"
    ∷ row 6 "PmtId"
    ∷ row 7 "TxId"
    ∷ row 6 "IntrBkSttlmAmt"
    ∷ row 6 "CdtrAgt"
    ∷ row 10 "FinInstnId"
    ∷ row 11 "BIC"
    ∷ row 6 "CdtrAcct"
    ∷ row 13 "Id"
    ∷ row 14 "IBAN"
    ∷ []

abbrev pub row_among : ℕ → List Row → ℕ → List ℕ → ℕ
row_among i [] parent name = skipped
row_among i (r ∷ more) parent name = cond (eqb r.parent parent && same r.name name) i (row_among (suc i) more parent name)

unfoldable pub row_of : ℕ → List ℕ → ℕ
row_of parent name = row_among 0 rows parent name

abbrev pub sender_row : ℕ
sender_row = 5

abbrev pub txid_row : ℕ
txid_row = 8

abbrev pub amount_row : ℕ
amount_row = 9

abbrev pub payee_row : ℕ
payee_row = 12

abbrev pub iban_row : ℕ
iban_row = 15

abbrev pub is_text_row : ℕ → Bool
is_text_row r = eqb r sender_row || eqb r txid_row || eqb r amount_row || eqb r payee_row || eqb r iban_row

pub record Named : Type 0 where
  pub row : ℕ
  pub attributes : List Attribute
  pub text : List ℕ
  pub plain : Bool

-- an element of a row, where it is one of the named
abbrev pub named : ℕ → Tag → List ℕ → Bool → List Named
named r t s plain = cond (eqb r skipped) [] (record { row = r; attributes = t.attributes; text = s; plain = plain } ∷ [])

abbrev pub leading_text : Content → List ℕ
leading_text (last_text s) = s
leading_text (text_then s e c) = s

abbrev pub is_plain : Content → Bool
is_plain (last_text s) = true
is_plain (text_then s e c) = false

-- 02, slip 3: other elements are skipped as balanced
abbrev mutual
  pub met : Element → ℕ → List Named
  met (self_closing t) parent = named (row_of parent t.name) t [] true
  met (nesting t c s) parent =
      named (row_of parent t.name) t (leading_text c) (is_plain c) ++ met_in c (row_of parent t.name)

  pub met_in : Content → ℕ → List Named
  met_in (last_text s) parent = []
  met_in (text_then s e c) parent = met e parent ++ met_in c parent
