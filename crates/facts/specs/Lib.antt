pub mod SmallFacts
