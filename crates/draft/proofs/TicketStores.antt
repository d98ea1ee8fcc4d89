-- What is written into a buffer, field by field, is an order ticket. Assumes nothing.
use mathlib.Core.Path.{◌≡◌, refl, sym, ◌∙◌, ap, ap₂}
use mathlib.Core.List.{List, [], ◌∷◌, ◌++◌, append_assoc}
use Prim.Native.Nat.{ℕ, ◌+◌, ◌-◌, ◌^◌, ◌≤◌, ◌<◌}
use native.Mathlib.Nat.{zero-add}
use native.Mathlib.Omega.{arith}
use lib.ListN.{length, set, take, drop, replicate, length-append, length-take, length-drop, length-replicate}
use lib.Seq.{sets, sets-eq, length-sets, drop-drop}
use Rattle.fields.specs.Number.{bytes_of}
use Rattle.fields.specs.Text.{padded}
use Rattle.fields.proofs.Stores.{sets-append}
use Rattle.fields.proofs.Padding.{length-padded, padded-full}
use Rattle.ticket.specs.TicketLayout.{ticket_length}
use Rattle.ticket.specs.TicketWriting.{order_ticket}

-- a part that is replaced by as many bytes
pub part-set : {v : List ℕ} (s l : List ℕ) (at : ℕ) → at + length s ≤ length l → v ≡ s
    → take at l ++ (v ++ drop (at + length s - at) (drop at l)) ≡ sets l at s
part-set s l at h e =
    ap (λ (u : List ℕ). take at l ++ (u ++ drop (at + length s - at) (drop at l))) e
    ∙ (let w : at + length s - at ≡ length s = omega arith in ap (λ (k : ℕ). take at l ++ (s ++ drop k (drop at l))) w)
    ∙ ap (λ (u : List ℕ). take at l ++ (s ++ u)) (drop-drop (length s) at l)
    ∙ sym (sets-eq s l at h ∙ append_assoc (take at l) s (drop (at + length s) l))

-- bytes, and zeroes behind them
padded-set : {l₁ l₂ : List ℕ} (l s : List ℕ) (at width : ℕ) → l₁ ≡ sets l at s
    → l₂ ≡ sets l₁ (at + length s) (replicate (width - length s) 0) → l₂ ≡ sets l at (padded width s)
padded-set l s at width e f =
    f ∙ ap (λ (u : List ℕ). sets u (at + length s) (replicate (width - length s) 0)) e
    ∙ sym (sets-append l at s (replicate (width - length s) 0))

-- the same, as the zeroes are filled into the part behind the bytes
pub padded-filled : {l₁ v : List ℕ} (l s : List ℕ) (at width : ℕ) → length s ≤ width → at + width ≤ length l → l₁ ≡ sets l at s
    → v ≡ replicate (length (take (at + width - (at + length s)) (drop (at + length s) l₁))) 0
    → take (at + length s) l₁ ++ (v ++ drop (at + width - (at + length s)) (drop (at + length s) l₁)) ≡ sets l at (padded width s)
padded-filled {l₁} {v} l s at width few fits e f =
    let left = width - length s in
    let long : length l₁ ≡ length l = ap length e ∙ simp length-sets in
    let n : at + width - (at + length s) ≡ left = omega arith in
    let all : length (take (at + width - (at + length s)) (drop (at + length s) l₁)) ≡ left =
    simp (length-take, length-drop) (omega arith)
    in
    let zeroes : v ≡ replicate left 0 = f ∙ ap (λ (k : ℕ). replicate k 0) all in
    let m : at + width - (at + length s) ≡ at + length s + length (replicate left 0) - (at + length s) =
    omega (arith, length-replicate {A = ℕ} left 0)
    in
    padded-set l s at width e
    (ap (λ (k : ℕ). take (at + length s) l₁ ++ (v ++ drop k (drop (at + length s) l₁))) m
    ∙ part-set (replicate left 0) l₁ (at + length s) (omega (arith, length-replicate {A = ℕ} left 0)) zeroes)

-- kind 3, flag 0, two zeroes and the time as one number
head_bytes : (t : ℕ) → t < 256 ^ 4 → bytes_of 8 (216172782113783808 + t) ≡ (3 ∷ 0 ∷ 0 ∷ 0 ∷ []) ++ bytes_of 4 t
head_bytes t h =
    ap₂ ◌∷◌ (omega arith)
    (ap₂ ◌∷◌ (omega arith)
    (ap₂ ◌∷◌ (omega arith)
    (ap₂ ◌∷◌ (omega arith)
    (ap₂ ◌∷◌ (omega arith)
    (ap₂ ◌∷◌ (omega arith)
    (ap₂ ◌∷◌ (omega arith)
    (ap₂ ◌∷◌ (omega arith) refl)))))))

-- a field behind what is written
laid_more : {l l' : List ℕ} (b bs vs : List ℕ) (k : ℕ) → l ≡ sets b 0 bs → length bs ≡ k → l' ≡ sets l k vs → l' ≡ sets b 0 (bs ++ vs)
laid_more b bs vs k e w f =
    f ∙ ap₂ (λ (u : List ℕ) (n : ℕ). sets u n vs) e (sym w ∙ sym (zero-add (length bs))) ∙ sym (sets-append b 0 bs vs)

pub ticket-written : {l₁ l₂ l₃ l₄ l₅ l₆ l₇ : List ℕ} (b : List ℕ) (time n : ℕ) (sender payee txid iban : List ℕ)
    → time < 256 ^ 4 → ticket_length ≤ length b → length sender ≡ 11 → length payee ≡ 11 → length txid ≤ 35 → length iban ≤ 34
    → l₁ ≡ sets b 0 (bytes_of 8 (216172782113783808 + time)) → l₂ ≡ sets l₁ 8 (bytes_of 8 n) → l₃ ≡ sets l₂ 16 sender
    → l₄ ≡ sets l₃ 27 payee → l₅ ≡ sets l₄ 38 (padded 35 txid) → l₆ ≡ sets l₅ 73 (padded 34 iban) → l₇ ≡ set l₆ 107 0
    → l₇ ≡ order_ticket time sender payee n txid iban ++ drop ticket_length b
ticket-written b time n sender payee txid iban fits room s p x i e₁ e₂ e₃ e₄ e₅ e₆ e₇ =
    let head = (3 ∷ 0 ∷ 0 ∷ 0 ∷ []) ++ bytes_of 4 time in
    let to-amount = head ++ bytes_of 8 n in
    let to-sender = to-amount ++ padded 11 sender in
    let to-payee = to-sender ++ padded 11 payee in
    let to-txid = to-payee ++ padded 35 txid in
    let to-iban = to-txid ++ padded 34 iban in
    let w₂ = length-append to-amount (padded 11 sender) in
    let w₃ = length-append to-sender (padded 11 payee) in
    let w₄ = length-append to-payee (padded 35 txid) in
    let w₅ = length-append to-txid (padded 34 iban) in
    let w₆ = length-append to-iban (0 ∷ []) in
    let ps = length-padded 11 sender (omega arith) in
    let pp = length-padded 11 payee (omega arith) in
    let px = length-padded 35 txid x in
    let pi = length-padded 34 iban i in
    let f₁ = e₁ ∙ ap (sets b 0) (head_bytes time fits) in
    let f₂ = laid_more b head (bytes_of 8 n) 8 f₁ refl e₂ in
    let f₃ = laid_more b to-amount (padded 11 sender) 16 f₂ refl (e₃ ∙ ap (sets _ 16) (sym (padded-full 11 sender s))) in
    let f₄ = laid_more b to-sender (padded 11 payee) 27 f₃ (omega arith) (e₄ ∙ ap (sets _ 27) (sym (padded-full 11 payee p))) in
    let f₅ = laid_more b to-payee (padded 35 txid) 38 f₄ (omega arith) e₅ in
    let f₆ = laid_more b to-txid (padded 34 iban) 73 f₅ (omega arith) e₆ in
    let f₇ = laid_more b to-iban (0 ∷ []) 107 f₆ (omega arith) e₇ in
    let long : length (to-iban ++ (0 ∷ [])) ≡ ticket_length = omega arith in
    f₇
    ∙ sets-eq (to-iban ++ (0 ∷ [])) b 0 (omega arith)
    ∙ ap (λ (k : ℕ). (to-iban ++ (0 ∷ [])) ++ drop k b) (zero-add _ ∙ long)
