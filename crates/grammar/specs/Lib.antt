-- Words taken one after the other, and what they come to.
pub mod Grammar
