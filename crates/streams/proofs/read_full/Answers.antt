use Rattle.std.proofs.Common.{◌≡◌, ℕ, ◌+◌, ◌-◌, ◌≤◌, List, ◌++◌, rules, length, take, sym, ap, ◌∙◌, subst, length-take-le}
use Rattle.std.specs.Io.KnownBytes.{Consumes}
use Rattle.std.proofs.KnownBytes.{Consumes-trans}
use borrow.Rule.Slice.PartMut.{put_mid, post_of}
use lib.Seq.{take-append-le, take-append-add}
use Rattle.streams.proofs.read_full.Goals as goal

-- what stands before a place, and what was read there
front : (at room got : ℕ) (s part : List ℕ) → at ≤ length s → got ≤ length part
    → take (at + got) (put_mid at room s part) ≡ take at s ++ take got part
front at room got s part within fits =
    ap (λ (n : ℕ). take (n + got) (put_mid at room s part)) (sym (length-take-le at s within))
    ∙ take-append-add (take at s) (part ++ post_of at room s) got
    ∙ ap (λ (l : List ℕ). take at s ++ l) (take-append-le got part (post_of at room s) fits)

pub loop-n-preserved : goal.loop-n-preserved
loop-n-preserved g c =
    let l = c.loop-n in
    let read = front l.n (length l.buffer - l.n) c.in-Ok.got l.buffer c.read.new.buf l.invariant.1 c.in-Ok.ensures.bound.0 in
    (search rules, search rules, subst (Consumes _ _) (sym read) (Consumes-trans _ _ _ _ _ l.invariant.2 c.in-Ok.ensures.bytes.0))
