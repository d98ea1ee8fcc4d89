mod LentText
mod BetweenPieces
