pub mod Forms
pub mod Grammar
pub mod Nesting
pub mod Printed
pub mod ReadBack
pub mod Reading
