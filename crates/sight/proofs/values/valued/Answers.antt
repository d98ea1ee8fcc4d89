-- `sight::values::valued` meets its contract. Assumes nothing.
use Rattle.sight.proofs.values.valued.Goals as goal

pub returns-in_default : goal.returns-in_default
returns-in_default c =
    simp (c.in_default.is, ← c.stated.ensures, ← c.amounts_of-amounts.ensures)

pub returns-in_default-limit : goal.returns-in_default-limit
returns-in_default-limit c =
    simp (
      c.in_default-limit.is,
      ← c.limit.ensures,
      c.in-Some.is,
      ← c.stated.ensures,
      ← c.amounts_of-amounts.ensures,
    )

pub returns-in_default-timing : goal.returns-in_default-timing
returns-in_default-timing c =
    simp (
      c.in_default-timing.is,
      ← c.timing.ensures,
      ← c.u32_at-time.ensures,
      c.in-Within.is,
      ← c.limit.ensures,
      c.in-Some.is,
      ← c.stated.ensures,
      ← c.amounts_of-amounts.ensures,
    )

pub returns : goal.returns
returns c =
    simp (
      c.in-InTime.is,
      ← c.timing.ensures,
      ← c.u32_at-time.ensures,
      c.in-Within.is,
      ← c.limit.ensures,
      c.in-Some.is,
      ← c.stated.ensures,
      ← c.amounts_of-amounts.ensures,
    )
