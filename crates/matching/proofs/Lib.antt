mod MatchedSoFar
mod RateHeld
mod Refusals
