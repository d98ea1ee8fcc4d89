-- What is wrong with a text, by numbers.
--     role_number     the row of an element, of what stands around the root, and of what is none of the named elements; or one behind these
--     wrong_refusal   the refusal that it is: 23 to 25, 7 or 8
--     wrong_number    the number for people
--     refusal_in      the refusal of a reader's answer: 0 where there is none
-- Assumes nothing.
use Rattle.std.specs.Prelude.{ℕ, suc, ◌+◌, Result, Ok, Err}
use Rattle.pacs.specs.Named.{outside, skipped}
use Rattle.pacs.specs.Judged.{element_refusal, amount_refusal, code_refusal, iban_refusal}
use Rattle.pacs.specs.Answering.{form_refusal}
use Rattle.pacs.specs.declared.rows.Role.{Role}
use Rattle.pacs.specs.declared.rows.Role.TheVariants.{Outside, Named, Skipped, Other}
use Rattle.pacs.specs.declared.refusals.Refused.{Refused}
use Rattle.pacs.specs.declared.refusals.Wrong.{Wrong}
use Rattle.pacs.specs.declared.refusals.Wrong.TheVariants.{
  TooLong,
  Declaration,
  NoRoot,
  NoTag,
  NoName,
  TagForm,
  NameTwice,
  NoEndTag,
  TooDeep,
  BehindRoot,
  Missing,
  Nested,
  Again,
  Attributes,
  Amount,
  Sender,
  Payee,
  Txid,
  Iban,
}

abbrev pub role_number : Role → ℕ
role_number Outside = outside
role_number (Named row) = row.number
role_number Skipped = skipped
role_number (Other n) = suc skipped + n

abbrev pub wrong_refusal : Wrong → ℕ
wrong_refusal TooLong = form_refusal
wrong_refusal Declaration = form_refusal
wrong_refusal NoRoot = form_refusal
wrong_refusal NoTag = form_refusal
wrong_refusal NoName = form_refusal
wrong_refusal TagForm = form_refusal
wrong_refusal NameTwice = form_refusal
wrong_refusal NoEndTag = form_refusal
wrong_refusal TooDeep = form_refusal
wrong_refusal BehindRoot = form_refusal
wrong_refusal (Missing row) = element_refusal
wrong_refusal (Nested row) = element_refusal
wrong_refusal (Again row) = element_refusal
wrong_refusal Attributes = amount_refusal
wrong_refusal Amount = amount_refusal
wrong_refusal Sender = code_refusal
wrong_refusal Payee = code_refusal
wrong_refusal Txid = code_refusal
wrong_refusal Iban = iban_refusal

abbrev pub wrong_number : Wrong → ℕ
wrong_number TooLong = 1
wrong_number Declaration = 2
wrong_number NoRoot = 3
wrong_number NoTag = 4
wrong_number NoName = 5
wrong_number TagForm = 6
wrong_number NameTwice = 7
wrong_number NoEndTag = 8
wrong_number TooDeep = 9
wrong_number BehindRoot = 10
wrong_number Attributes = 14
wrong_number Amount = 15
wrong_number Sender = 16
wrong_number Payee = 17
wrong_number Txid = 18
wrong_number Iban = 19
wrong_number (Missing row) = 32 + row.number
wrong_number (Nested row) = 48 + row.number
wrong_number (Again row) = 64 + row.number

abbrev pub refusal_in : Result (Unit {0}) Refused → ℕ
refusal_in (Ok done) = 0
refusal_in (Err refused) = wrong_refusal refused.wrong
