pub mod AttributeParts
