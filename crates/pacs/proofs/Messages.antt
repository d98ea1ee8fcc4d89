-- A message as a tree, as the text that it writes, and as an order; and texts beside it, each with its refusal or its ticket. What is
-- found in a text is its one reading, so a row tells what is promised of the text.
--     message          a tree with no element but the named
--     message_text      what it writes
--     told-answered    what a row tells is what is promised
--     cases            texts by the words of 02, slip 3, and texts that a wrong reader takes
-- Assumes nothing.
use Prim.Native.Nat.{ℕ, zero, suc, ◌-◌}
use Prim.Native.String.{String}
use mathlib.Core.Path.{◌≡◌, refl, ap}
use mathlib.Core.Bool.{true}
use mathlib.Core.List.{List, [], ◌∷◌, ◌++◌, map}
use lib.ListN.{length, replicate}
use Rattle.fields.specs.Text.{text, joined}
use Rattle.fields.proofs.CaseRows.{Row, AllMet, all-met}
use Rattle.codes.specs.Bic.{is_bic}
use Rattle.codes.specs.Txid.{is_txid}
use Rattle.iban.specs.Iban.{is_iban}
use Rattle.ticket.specs.TicketWriting.{order_ticket}
use Rattle.xml.specs.Bytes.{is_space, is_letter, is_encoding_byte, is_first, is_name, is_text, is_value}
use Rattle.xml.specs.Tree.{Attribute, Tag, Element, self_closing, nesting, Content, last_text, text_then, undeclared, declared, Document}
use Rattle.xml.specs.Writing.{written}
use Rattle.xml.specs.WellFormed.{well_formed}
use Rattle.xml.specs.Scanning.{attributes_of, tag_of}
use Rattle.pacs.specs.Named.{row_of, met, outside}
use Rattle.pacs.specs.Judged.{Verdict, refused, accepted, is_digit, judged}
use Rattle.pacs.specs.Walk.{read_as, found}
use Rattle.pacs.specs.Answering.{verdict_of, Answered}
use Rattle.pacs.proofs.Answers.{answered, answered-once}

abbrev bic_a : String
bic_a = "AAAALV2X"

abbrev bic_b : String
bic_b = "BBBBLV2XXXX"

abbrev iban : String
iban = "LV80BANK0000435195001"

-- an order at 5, by sender, payee, cents and TxId
abbrev order_of : String → String → ℕ → String → List ℕ
order_of sender payee n txid = order_ticket 5 (text sender) (text payee) n (text txid) (text iban)

abbrev order : List ℕ
order = order_of "AAAALV2XXXX" "BBBBLV2XXXX" 1234 "1"

-- elements without white space
abbrev tag : String → List Attribute → Tag
tag name more = record { name = text name; attributes = more; space = [] }

abbrev content : List Element → Content
content [] = last_text []
content (e ∷ more) = text_then [] e (content more)

abbrev group : String → List Element → Element
group name es = nesting (tag name []) (content es) []

abbrev leaf : String → String → Element
leaf name s = nesting (tag name []) (last_text (text s)) []

abbrev euro : Attribute
euro = record { space = text " "; name = text "Ccy"; before = []; after = []; value = text "EUR" }

abbrev pub message : Document
message =
    record {
      prolog = undeclared;
      space = [];
      root =
          group "LBFastCdtTrf"
          (group "FIToFICstmrCdtTrf"
          (group "GrpHdr" (group "InstgAgt" (group "FinInstnId" (leaf "BIC" bic_a ∷ []) ∷ []) ∷ [])
          ∷ group "CdtTrfTxInf"
          (group "PmtId" (leaf "TxId" "1" ∷ [])
          ∷ nesting (tag "IntrBkSttlmAmt" (euro ∷ [])) (last_text (text "12.34")) []
          ∷ group "CdtrAgt" (group "FinInstnId" (leaf "BIC" bic_b ∷ []) ∷ [])
          ∷ group "CdtrAcct" (group "Id" (leaf "IBAN" iban ∷ []) ∷ [])
          ∷ [])
          ∷ [])
          ∷ []);
      end = [];
    }

abbrev pub message_text : List ℕ
message_text =
    joined
    (text "<LBFastCdtTrf><FIToFICstmrCdtTrf>"
    ∷ text "<GrpHdr><InstgAgt><FinInstnId><BIC>AAAALV2X</BIC></FinInstnId></InstgAgt></GrpHdr>"
    ∷ text "<CdtTrfTxInf><PmtId><TxId>1</TxId></PmtId>"
    ∷ text "<IntrBkSttlmAmt Ccy=\"EUR\">12.34</IntrBkSttlmAmt>"
    ∷ text "<CdtrAgt><FinInstnId><BIC>BBBBLV2XXXX</BIC></FinInstnId></CdtrAgt>"
    ∷ text "<CdtrAcct><Id><IBAN>LV80BANK0000435195001</IBAN></Id></CdtrAcct></CdtTrfTxInf>"
    ∷ text "</FIToFICstmrCdtTrf></LBFastCdtTrf>"
    ∷ [])

pub message-formed : well_formed message ≡ true
unfolding is_space is_letter is_encoding_byte is_first is_name is_text is_value
message-formed = refl

pub message-written : written message ≡ message_text
message-written = refl

pub message-judged : judged 5 (met message.root outside) ≡ accepted order
unfolding row_of is_digit is_bic is_txid is_iban judged
message-judged = refl

pub message-found : found message_text ≡ read_as message (met message.root outside)
unfolding is_space is_letter is_encoding_byte is_first is_name is_text is_value attributes_of tag_of row_of found
message-found = refl

-- what stands where
pub short-found : found (text "<?xml version=\"1.0\" ?>\n<a  b = \"c\"\t>d<e />f</a >\r")
    ≡ read_as
    (record {
      prolog = declared (record { space = text " "; name = text "version"; before = []; after = []; value = text "1.0" } ∷ []) (text " ");
      space = text "\n";
      root =
          nesting
          (record {
            name = text "a";
            attributes =
                record { space = text "  "; name = text "b"; before = text " "; after = text " "; value = text "c" } ∷ [];
            space = text "\t";
          })
          (text_then (text "d") (self_closing (record { name = text "e"; attributes = []; space = text " " })) (last_text (text "f")))
          (text " ");
      end = text "\r";
    })
    []
unfolding is_space is_letter is_encoding_byte is_first is_name is_text is_value attributes_of tag_of row_of found
short-found = refl

abbrev any_bytes : List ℕ
any_bytes = 0 ∷ 255 ∷ []

-- the same text by its parts
abbrev within : String → List ℕ → List ℕ
within name s = joined (text "<" ∷ text name ∷ text ">" ∷ s ∷ text "</" ∷ text name ∷ text ">" ∷ [])

abbrev sender : List ℕ → List ℕ
sender bic = within "InstgAgt" (within "FinInstnId" (within "BIC" bic))

abbrev header : List ℕ → List ℕ
header bic = within "GrpHdr" (sender bic)

abbrev ids : List ℕ → List ℕ
ids txid = within "PmtId" (within "TxId" txid)

abbrev amount : List ℕ → List ℕ → List ℕ
amount attributes s = joined (text "<IntrBkSttlmAmt" ∷ attributes ∷ text ">" ∷ s ∷ text "</IntrBkSttlmAmt>" ∷ [])

abbrev in_euro : String → List ℕ
in_euro s = amount (text " Ccy=\"EUR\"") (text s)

abbrev agent : List ℕ → List ℕ
agent bic = within "CdtrAgt" (within "FinInstnId" (within "BIC" bic))

abbrev account : List ℕ → List ℕ
account s = within "CdtrAcct" (within "Id" (within "IBAN" s))

abbrev the_header : List ℕ
the_header = header (text bic_a)

abbrev the_ids : List ℕ
the_ids = ids (text "1")

abbrev the_amount : List ℕ
the_amount = in_euro "12.34"

abbrev the_agent : List ℕ
the_agent = agent (text bic_b)

abbrev the_account : List ℕ
the_account = account (text iban)

abbrev inner : List (List ℕ) → List ℕ
inner parts = within "FIToFICstmrCdtTrf" (joined parts)

abbrev whole : List (List ℕ) → List ℕ
whole parts = within "LBFastCdtTrf" (inner parts)

-- a message with these parts in its CdtTrfTxInf; with one part exchanged; and with something beside the named elements there
abbrev transfer : List (List ℕ) → List ℕ
transfer parts = within "CdtTrfTxInf" (joined parts)

abbrev paying : List (List ℕ) → List ℕ
paying parts = whole (the_header ∷ transfer parts ∷ [])

abbrev the_transfer : List ℕ
the_transfer = transfer (the_ids ∷ the_amount ∷ the_agent ∷ the_account ∷ [])

abbrev with_header : List ℕ → List ℕ
with_header s = whole (s ∷ the_transfer ∷ [])

abbrev with_ids : List ℕ → List ℕ
with_ids s = paying (s ∷ the_amount ∷ the_agent ∷ the_account ∷ [])

abbrev with_amount : List ℕ → List ℕ
with_amount s = paying (the_ids ∷ s ∷ the_agent ∷ the_account ∷ [])

abbrev with_agent : List ℕ → List ℕ
with_agent s = paying (the_ids ∷ the_amount ∷ s ∷ the_account ∷ [])

abbrev with_account : List ℕ → List ℕ
with_account s = paying (the_ids ∷ the_amount ∷ the_agent ∷ s ∷ [])

abbrev beside : List ℕ → List ℕ
beside s = paying (the_ids ∷ s ∷ the_amount ∷ the_agent ∷ the_account ∷ [])

-- n elements around a text
abbrev nested : ℕ → List ℕ → List ℕ
nested zero s = s
nested (suc n) s = within "x" (nested n s)

-- a self-closing element with these bytes as attributes
abbrev attributed : List ℕ → List ℕ
attributed names = joined (text "<x" ∷ joined (map (λ (b : ℕ). 0x20 ∷ b ∷ text "=\"\"") names) ∷ text "/>" ∷ [])

-- white space behind the message, n bytes in all
abbrev spaced_to : ℕ → List ℕ
spaced_to n = message_text ++ replicate (n - length message_text) 0x20

abbrev declared_by : String → List ℕ
declared_by s = text s ++ message_text

-- 0 and the ticket, or the refusal
abbrev outcome : Verdict → List ℕ
outcome (refused n) = n ∷ []
outcome (accepted ticket) = 0 ∷ ticket

abbrev told : List ℕ → List ℕ
told t = outcome (verdict_of 5 (found t))

-- it is what is promised of the text
pub told-answered : (t : List ℕ) (v : Verdict) → Answered t 5 v → outcome v ≡ told t
told-answered t v a = ap outcome (answered-once t 5 v (verdict_of 5 (found t)) a (answered t 5 (verdict_of 5 (found t)) refl))

abbrev refuses : String → ℕ → List ℕ → Row
refuses shows n t = record { shows = shows; rule = told; given = t; due = n ∷ [] }

abbrev accepts : String → List ℕ → List ℕ → Row
accepts shows ticket t = record { shows = shows; rule = told; given = t; due = 0 ∷ ticket }

-- a text beside the named elements, not allowed and allowed
abbrev wrong_beside : String → Row
wrong_beside s = refuses s 23 (beside (text s))

abbrev right_beside : String → Row
right_beside s = accepts s order (beside (text s))

-- a declaration
abbrev wrong_declared : String → Row
wrong_declared s = refuses s 23 (declared_by s)

abbrev right_declared : String → Row
right_declared s = accepts s order (declared_by s)

-- the amount's text and its attributes
abbrev wrong_amount : String → Row
wrong_amount s = refuses s 25 (with_amount (in_euro s))

abbrev right_amount : String → ℕ → Row
right_amount s n = accepts s (order_of "AAAALV2XXXX" "BBBBLV2XXXX" n "1") (with_amount (in_euro s))

abbrev wrong_attributes : String → Row
wrong_attributes s = refuses s 25 (with_amount (amount (text s) (text "12.34")))

-- 23: a form not allowed, elements not balanced or too deep; and what is allowed
abbrev pub forms : List Row
forms =
    refuses "empty text" 23 []
    ∷ accepts "the message" order message_text
    ∷ refuses "another byte behind the root" 23 (message_text ++ text "x")
    ∷ refuses "a second root" 23 (message_text ++ text "<a/>")
    ∷ accepts "white space around the root" order (joined (text " \t\r\n" ∷ message_text ∷ text "\n" ∷ []))
    ∷ refuses "another byte before the root" 23 (text "x" ++ message_text)
    ∷ refuses "a byte order mark" 23 (joined ((0xef ∷ 0xbb ∷ 0xbf ∷ []) ∷ message_text ∷ []))
    ∷ refuses "the last byte missing" 23 (text "<LBFastCdtTrf></LBFastCdtTrf")
    ∷ refuses "the root never ends" 23 (text "<LBFastCdtTrf>")
    ∷ refuses "an end tag alone" 23 (text "</LBFastCdtTrf>")
    ∷ wrong_beside "<:a/>"
    ∷ wrong_beside "<-a/>"
    ∷ wrong_beside "<1/>"
    ∷ wrong_beside "<x y=\"<\"/>"
    ∷ wrong_beside "<x y=\"&\"/>"
    ∷ wrong_beside "<x a=\"1\"b=\"2\"/>"
    ∷ wrong_beside "<x a=\"1\" a=\"2\"/>"
    ∷ wrong_beside "<a></ab>"
    ∷ wrong_beside "<ab></a>"
    ∷ wrong_beside "<a><b></a></b>"
    ∷ wrong_beside "<x/ >"
    ∷ wrong_beside "< x/>"
    ∷ wrong_beside "<x></ x>"
    ∷ wrong_beside "<x>"
    ∷ wrong_beside "<x y='1'/>"
    ∷ wrong_beside "<x y/>"
    ∷ wrong_beside "<x y=1/>"
    ∷ wrong_beside "<x y=\"1/>"
    ∷ wrong_beside "<!--a-->"
    ∷ wrong_beside "<![CDATA[a]]>"
    ∷ wrong_beside "<?a?>"
    ∷ wrong_beside "<!DOCTYPE a>"
    ∷ wrong_beside "a&b"
    ∷ wrong_beside "&amp;"
    ∷ wrong_beside "<"
    ∷ wrong_beside "</CdtTrfTxInf x>"
    ∷ right_beside "<x ></x >"
    ∷ right_beside "<x/>"
    ∷ right_beside "<x />"
    ∷ right_beside "<x\n/>"
    ∷ right_beside "<_a.b-c:d/>"
    ∷ right_beside "<x y = \"1\" z=\">\"/>"
    ∷ right_beside "<x y=\"'\"/>"
    ∷ right_beside "loose text"
    ∷ right_beside "]]>"
    ∷ right_beside "<x>]]></x>"
    ∷ right_beside "<x a=\"1\" A=\"2\"/>"
    ∷ accepts "bytes 0 and 255 in skipped text and values" order
    (beside (joined (text "<x y=\"" ∷ any_bytes ∷ text "\">" ∷ any_bytes ∷ text "</x>" ∷ [])))
    ∷ accepts "17 attributes" order (beside (attributed (text "abcdefghijklmnopq")))
    ∷ refuses "17 attributes, the last a repeat" 23 (beside (attributed (text "abcdefghijklmnopa")))
    ∷ accepts "depth 16 by a self-closing element" order (beside (nested 12 (text "<x/>")))
    ∷ refuses "depth 17 by a self-closing element" 23 (beside (nested 13 (text "<x/>")))
    ∷ accepts "depth 16" order (beside (nested 13 []))
    ∷ refuses "depth 17" 23 (beside (nested 14 []))
    ∷ accepts "65,520 bytes" order (spaced_to 65_520)
    ∷ refuses "65,521 bytes" 23 (spaced_to 65_521)
    ∷ []

-- the one optional declaration
abbrev pub declarations : List Row
declarations =
    right_declared "<?xml version=\"1.0\"?>"
    ∷ right_declared "<?xml version=\"1.0\" ?>"
    ∷ right_declared "<?xml version = \"1.0\" encoding=\"UTF-8\" standalone=\"yes\"?>\n"
    ∷ right_declared "<?xml version=\"1.0\" standalone=\"no\"?>"
    ∷ right_declared "<?xml\tversion=\"1.0\"\nencoding=\"A.b_1-2\"?>"
    ∷ wrong_declared "<?xmlversion=\"1.0\"?>"
    ∷ wrong_declared "<?xml version=\"1.0\"encoding=\"UTF-8\"?>"
    ∷ wrong_declared "<?xml version=\"1.0\" encoding=\"a:b\"?>"
    ∷ wrong_declared "<?xml version=\"1.0\" encoding=\"8\"?>"
    ∷ wrong_declared "<?xml version=\"1.0\" encoding=\"\"?>"
    ∷ wrong_declared " <?xml version=\"1.0\"?>"
    ∷ wrong_declared "<?xml version=\"1.1\"?>"
    ∷ wrong_declared "<?xml?>"
    ∷ wrong_declared "<?xml encoding=\"UTF-8\"?>"
    ∷ wrong_declared "<?xml version=\"1.0\" standalone=\"yes\" encoding=\"UTF-8\"?>"
    ∷ wrong_declared "<?xml version=\"1.0\" standalone=\"maybe\"?>"
    ∷ wrong_declared "<?xml version=\"1.0\" a=\"b\"?>"
    ∷ wrong_declared "<?xml version='1.0'?>"
    ∷ wrong_declared "<?xml version=\"1.0\">"
    ∷ wrong_declared "<?xml version=\"1.0\"? >"
    ∷ wrong_declared "<?XML version=\"1.0\"?>"
    ∷ wrong_declared "<?xml version=\"1.0\"?><?xml version=\"1.0\"?>"
    ∷ wrong_declared "<?xml version=\"1.0\" version=\"1.0\"?>"
    ∷ []

-- 24: a named element missing, twice in its parent or out of order, or a named text holding an element
abbrev pub places : List Row
places =
    refuses "another root" 24 (within "a" (inner (the_header ∷ the_transfer ∷ [])))
    ∷ refuses "the root alone" 24 (text "<LBFastCdtTrf/>")
    ∷ refuses "FIToFICstmrCdtTrf missing" 24 (within "LBFastCdtTrf" (joined (the_header ∷ the_transfer ∷ [])))
    ∷ refuses "FIToFICstmrCdtTrf twice" 24
    (within "LBFastCdtTrf" (joined (inner (the_header ∷ the_transfer ∷ []) ∷ text "<FIToFICstmrCdtTrf/>" ∷ [])))
    ∷ refuses "GrpHdr missing" 24 (whole (the_transfer ∷ []))
    ∷ refuses "GrpHdr self-closing" 24 (with_header (text "<GrpHdr/>"))
    ∷ refuses "InstgAgt missing" 24 (with_header (within "GrpHdr" []))
    ∷ refuses "FinInstnId missing" 24 (with_header (within "GrpHdr" (within "InstgAgt" [])))
    ∷ refuses "BIC missing" 24 (with_header (within "GrpHdr" (within "InstgAgt" (within "FinInstnId" []))))
    ∷ refuses "CdtTrfTxInf missing" 24 (whole (the_header ∷ []))
    ∷ refuses "PmtId missing" 24 (with_ids [])
    ∷ refuses "TxId missing" 24 (with_ids (within "PmtId" []))
    ∷ refuses "IntrBkSttlmAmt missing" 24 (with_amount [])
    ∷ refuses "CdtrAgt missing" 24 (with_agent [])
    ∷ refuses "IBAN missing" 24 (with_account (within "CdtrAcct" (within "Id" [])))
    ∷ refuses "TxId missing, and two empty CdtrAgt before the real one" 24
    (paying (text "<PmtId/>" ∷ the_amount ∷ text "<CdtrAgt/><CdtrAgt/>" ∷ the_agent ∷ the_account ∷ []))
    ∷ refuses "TxId missing, and an amount in a second CdtrAgt" 24
    (paying (text "<PmtId/>" ∷ the_amount ∷ text "<CdtrAgt Ccy=\"EUR\">12.34</CdtrAgt>" ∷ the_agent ∷ the_account ∷ []))
    ∷ refuses "a second CdtrAcct, and the IBAN in Id" 24
    (with_account (text "<CdtrAcct/>" ++ within "CdtrAcct" (within "Id" (text iban))))
    ∷ refuses "a second GrpHdr" 24 (whole (the_header ∷ the_header ∷ the_transfer ∷ []))
    ∷ refuses "a second GrpHdr, self-closing, at the end" 24 (whole (the_header ∷ the_transfer ∷ text "<GrpHdr/>" ∷ []))
    ∷ refuses "a second CdtTrfTxInf" 24 (whole (the_header ∷ the_transfer ∷ the_transfer ∷ []))
    ∷ refuses "a second TxId" 24 (with_ids (within "PmtId" (text "<TxId>1</TxId><TxId>1</TxId>")))
    ∷ refuses "a second InstgAgt" 24 (with_header (within "GrpHdr" (sender (text bic_a) ++ text "<InstgAgt/>")))
    ∷ refuses "CdtTrfTxInf before GrpHdr" 24 (whole (the_transfer ∷ the_header ∷ []))
    ∷ refuses "IntrBkSttlmAmt before PmtId" 24 (paying (the_amount ∷ the_ids ∷ the_agent ∷ the_account ∷ []))
    ∷ refuses "CdtrAcct before CdtrAgt" 24 (paying (the_ids ∷ the_amount ∷ the_account ∷ the_agent ∷ []))
    ∷ refuses "an element in the sender's BIC" 24 (with_header (header (text bic_a ++ text "<x/>")))
    ∷ refuses "an element in TxId" 24 (with_ids (ids (text "1<x/>")))
    ∷ refuses "an element in IntrBkSttlmAmt" 24 (with_amount (in_euro "12.34<x/>"))
    ∷ refuses "an element in the payee's BIC" 24 (with_agent (agent (text "<x/>BBBBLV2XXXX")))
    ∷ refuses "an element in IBAN" 24 (with_account (account (text iban ++ text "<x></x>")))
    ∷ refuses "a BIC in BIC" 24 (with_header (header (within "BIC" (text bic_a))))
    ∷ refuses "a:BIC for BIC" 24 (with_header (within "GrpHdr" (within "InstgAgt" (within "FinInstnId" (within "a:BIC" (text bic_a))))))
    ∷ refuses "bic for BIC" 24 (with_header (within "GrpHdr" (within "InstgAgt" (within "FinInstnId" (within "bic" (text bic_a))))))
    ∷ refuses "a second GrpHdr and a wrong amount" 24
    (whole (the_header ∷ the_header ∷ transfer (the_ids ∷ in_euro "0.00" ∷ the_agent ∷ the_account ∷ []) ∷ []))
    ∷ refuses "a second GrpHdr and & behind it" 23 (whole (the_header ∷ the_header ∷ text "&" ∷ the_transfer ∷ []))
    ∷ []

-- other elements are skipped: the same names elsewhere, loose text, and attributes of other elements than the amount
abbrev pub skips : List Row
skips =
    accepts "PmtId/TxId in a Dbtr" order (beside (text "<Dbtr><PmtId><TxId>2</TxId></PmtId></Dbtr>"))
    ∷ accepts "TxId beside PmtId" order (beside (text "<TxId>2</TxId>"))
    ∷ accepts "DbtrAcct/Id/IBAN" order (beside (text "<DbtrAcct><Id><IBAN>2</IBAN></Id></DbtrAcct>"))
    ∷ accepts "DbtrAgt/FinInstnId/BIC" order (beside (text "<DbtrAgt><FinInstnId><BIC>2</BIC></FinInstnId></DbtrAgt>"))
    ∷ accepts "InstdAgt/FinInstnId/BIC in GrpHdr" order
    (with_header (within "GrpHdr" (sender (text bic_a) ++ text "<InstdAgt><FinInstnId><BIC>2</BIC></FinInstnId></InstdAgt>")))
    ∷ accepts "a whole GrpHdr in CdtTrfTxInf" order (beside the_header)
    ∷ accepts "the whole message in CdtTrfTxInf" order (beside message_text)
    ∷ accepts "other elements before and behind the named ones" order
    (with_ids (within "PmtId" (text "a<InstrId>2</InstrId>b<TxId>1</TxId>c<EndToEndId/>d")))
    ∷ accepts "an attribute of the root" order
    (joined (text "<LBFastCdtTrf xmlns=\"a\">" ∷ inner (the_header ∷ the_transfer ∷ []) ∷ text "</LBFastCdtTrf>" ∷ []))
    ∷ accepts "an attribute of BIC" order (with_agent (within "CdtrAgt" (within "FinInstnId" (text "<BIC a=\"1\">BBBBLV2XXXX</BIC>"))))
    ∷ accepts "an attribute of TxId" order (with_ids (within "PmtId" (text "<TxId Ccy=\"USD\">1</TxId>")))
    ∷ []

-- 25: amount text or attributes wrong, or zero
abbrev pub amounts : List Row
amounts =
    wrong_amount "0.00"
    ∷ wrong_amount "000000000.00"
    ∷ wrong_amount ".50"
    ∷ wrong_amount "1.5"
    ∷ wrong_amount "1.500"
    ∷ wrong_amount "1"
    ∷ wrong_amount "1."
    ∷ wrong_amount "12,34"
    ∷ wrong_amount "0000000001.00"
    ∷ wrong_amount "+1.00"
    ∷ wrong_amount "-1.00"
    ∷ wrong_amount " 1.00"
    ∷ wrong_amount "1.00 "
    ∷ wrong_amount "1000000000.00"
    ∷ wrong_amount "a.00"
    ∷ wrong_amount "1.0a"
    ∷ wrong_amount ""
    ∷ wrong_amount "1..00"
    ∷ wrong_amount "1.2.34"
    ∷ right_amount "0.01" 1
    ∷ right_amount "1.00" 100
    ∷ right_amount "000000012.34" 1_234
    ∷ right_amount "999999999.99" 99_999_999_999
    ∷ wrong_attributes ""
    ∷ wrong_attributes " Ccy=\"USD\""
    ∷ wrong_attributes " Ccy=\"eur\""
    ∷ wrong_attributes " Ccy=\"\""
    ∷ wrong_attributes " ccy=\"EUR\""
    ∷ wrong_attributes " a:Ccy=\"EUR\""
    ∷ wrong_attributes " Ccy=\"EUR\" x=\"\""
    ∷ wrong_attributes " x=\"\" Ccy=\"EUR\""
    ∷ wrong_attributes " xmlns=\"a\" Ccy=\"EUR\""
    ∷ wrong_attributes " Ccy=\"EUR \""
    ∷ refuses "Ccy twice" 23 (with_amount (amount (text " Ccy=\"EUR\" Ccy=\"EUR\"") (text "12.34")))
    ∷ accepts "white space around the attribute" order (with_amount (amount (text "\n Ccy = \"EUR\" ") (text "12.34")))
    ∷ refuses "IntrBkSttlmAmt self-closing" 25 (with_amount (text "<IntrBkSttlmAmt Ccy=\"EUR\"/>"))
    ∷ refuses "a wrong amount and an empty BIC" 25 (whole (header [] ∷ transfer (the_ids ∷ in_euro "0.00" ∷ the_agent ∷ the_account ∷ []) ∷ []))
    ∷ []

-- 7 and 8: texts are taken whole, and a BIC of eight bytes is filled
abbrev pub codes : List Row
codes =
    refuses "an empty BIC" 7 (with_header (header []))
    ∷ refuses "BIC self-closing" 7 (with_header (within "GrpHdr" (within "InstgAgt" (within "FinInstnId" (text "<BIC/>")))))
    ∷ refuses "a BIC of 7 bytes" 7 (with_header (header (text "AAAALV2")))
    ∷ refuses "a BIC of 9 bytes" 7 (with_header (header (text "AAAALV2XX")))
    ∷ refuses "a BIC of 8 bytes and three zero bytes" 7 (with_header (header (text bic_a ++ (0 ∷ 0 ∷ 0 ∷ []))))
    ∷ refuses "a BIC of 12 bytes" 7 (with_header (header (text "AAAALV2XXXXX")))
    ∷ accepts "a BIC of 11 bytes" (order_of "AAAALV2X123" "BBBBLV2XXXX" 1234 "1") (with_header (header (text "AAAALV2X123")))
    ∷ accepts "a payee's BIC of 8 bytes" (order_of "AAAALV2XXXX" "CCCCLV2XXXX" 1234 "1") (with_agent (agent (text "CCCCLV2X")))
    ∷ refuses "a payee's BIC of 9 bytes" 7 (with_agent (agent (text "CCCCLV2XX")))
    ∷ refuses "white space around a BIC" 7 (with_header (header (text " AAAALV2X")))
    ∷ refuses "an empty TxId" 7 (with_ids (ids []))
    ∷ refuses "TxId 1 and a zero byte" 7 (with_ids (ids (text "1" ++ (0 ∷ []))))
    ∷ refuses "TxId 1 and white space" 7 (with_ids (ids (text "1 ")))
    ∷ accepts "TxId a'b" (order_of "AAAALV2XXXX" "BBBBLV2XXXX" 1234 "a'b") (with_ids (ids (text "a'b")))
    ∷ accepts "TxId of 35 bytes" (order_of "AAAALV2XXXX" "BBBBLV2XXXX" 1234 "12345678901234567890123456789012345")
    (with_ids (ids (text "12345678901234567890123456789012345")))
    ∷ refuses "TxId of 36 bytes" 7 (with_ids (ids (text "123456789012345678901234567890123456")))
    ∷ refuses "an empty IBAN" 8 (with_account (account []))
    ∷ refuses "an IBAN and a zero byte" 8 (with_account (account (text iban ++ (0 ∷ []))))
    ∷ refuses "an IBAN with another check digit" 8 (with_account (account (text "LV81BANK0000435195001")))
    ∷ refuses "an IBAN in small letters" 8 (with_account (account (text "LV80bank0000435195001")))
    ∷ refuses "BIC and IBAN both empty" 7 (whole (header [] ∷ transfer (the_ids ∷ the_amount ∷ the_agent ∷ account [] ∷ []) ∷ []))
    ∷ refuses "TxId and IBAN both empty" 7 (paying (ids [] ∷ the_amount ∷ the_agent ∷ account [] ∷ []))
    ∷ []

abbrev pub cases : List Row
cases = forms ++ declarations ++ places ++ skips ++ amounts ++ codes

pub cases-met : AllMet cases
unfolding is_space is_letter is_encoding_byte is_first is_name is_text is_value attributes_of tag_of row_of found is_digit is_bic is_txid is_iban judged
cases-met = all-met cases refl
