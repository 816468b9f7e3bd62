mod Printed
mod Forms
