-- What a reader must believe of the rules, in the order of "Region, layout, ledger" and "When the gate stays shut"; then the text of a
-- refusal.
pub mod Layout
pub mod Outcome
pub mod Rule
pub mod Text
